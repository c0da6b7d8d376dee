-- Which strategy a number of bins names: the contract of `TryFrom` in src/strategy.rt.
use Rattle.std.specs.Prelude.{ℕ, Result, Ok, Err, cond, eqb}
use Rattle.elements.specs.declared.strategy.NoStrategy.{NoStrategy}
use Rattle.elements.specs.declared.strategy.Strategy.{Strategy}
use Rattle.elements.specs.declared.strategy.Strategy.TheVariants.{D15, D25, D45}

-- the strategy of so many bins
abbrev pub of_grpsize : ℕ → Result Strategy NoStrategy
of_grpsize bins = cond (eqb bins 1) (Ok D15) (cond (eqb bins 2) (Ok D25) (cond (eqb bins 4) (Ok D45) (Err (record {}))))
