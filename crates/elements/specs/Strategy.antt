-- The exponent strategies (A/52 5.4.3.22, Table 7.4, 7.1.3): how many bins share an exponent, and the code that stands for each.
use Rattle.std.specs.Prelude.{ℕ}
use Rattle.elements.specs.declared.set.ExponentSet.{ExponentSet}
use Rattle.elements.specs.declared.set.ExponentSet.TheVariants.{Reuse, New}
use Rattle.elements.specs.declared.strategy.Strategy.{Strategy}
use Rattle.elements.specs.declared.strategy.Strategy.TheVariants.{D15, D25, D45}

-- "grpsize"
abbrev pub grpsize : Strategy → ℕ
grpsize D15 = 1
grpsize D25 = 2
grpsize D45 = 4

abbrev pub code_of : Strategy → ℕ
code_of D15 = 1
code_of D25 = 2
code_of D45 = 3

-- of a block's set
abbrev pub code_of_set : ExponentSet → ℕ
code_of_set Reuse = 0
code_of_set (New strategy) = code_of strategy
