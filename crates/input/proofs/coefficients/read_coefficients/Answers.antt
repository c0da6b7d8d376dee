use mathlib.Core.Path.{ap, ◌∙◌}
use mathlib.Core.List.{[]}
use native.Mathlib.Omega.{arith}
use Rattle.bits.specs.PartsLaws.{tab-start, tab-more, tab-end}
use Rattle.shaping.specs.Pattern.{coefficient}
use Rattle.input.specs.Input.{coefficients_in}
use Rattle.input.proofs.coefficients.read_coefficients.Goals as goal

pub loop-i-init : goal.loop-i-init
loop-i-init c = tab-start _ []

pub loop-i-preserved : goal.loop-i-preserved
loop-i-preserved c = tab-more _ _ _ _ (omega arith) c.loop-i.invariant (c.coefficient_of.ensures ∙ ap coefficient c.pattern_at.ensures)

pub returns : goal.returns
unfolding coefficients_in
returns c = tab-end _ _ c.loop-i.i _ (omega arith) c.loop-i.auto.coeffs c.loop-i.invariant
