-- The bounds of a strategy's span and code.
use Rattle.std.specs.Prelude.{◌≤◌}
use Rattle.std.proofs.Common.{rules}
use Rattle.elements.specs.Strategy.{code_of, grpsize}
use Rattle.elements.specs.declared.strategy.Strategy.{Strategy}
use Rattle.elements.specs.declared.strategy.Strategy.TheVariants.{D15, D25, D45}

pub grpsize-least : (s : Strategy) → 1 ≤ grpsize s
grpsize-least D15 = search rules
grpsize-least D25 = search rules
grpsize-least D45 = search rules

pub code_of-most : (s : Strategy) → code_of s ≤ 3
code_of-most D15 = search rules
code_of-most D25 = search rules
code_of-most D45 = search rules
