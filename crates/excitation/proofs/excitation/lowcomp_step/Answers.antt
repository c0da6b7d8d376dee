-- The step where the next psd is 256 above; else the quotient says whether it falls.
use borrow.Author.Tests.{eq-eqb}
use Rattle.excitation.specs.Excitation.{stepped_lowcomp}
use Rattle.excitation.proofs.Exciting.{fallen}
use Rattle.excitation.proofs.excitation.lowcomp_step.Goals as goal

pub returns-then-b0-b1 : goal.returns-then-b0-b1
unfolding stepped_lowcomp
returns-then-b0-b1 c = simp (eq-eqb _ _ c.if-b0-b1.true)

pub returns-else-b0-b1 : goal.returns-else-b0-b1
returns-else-b0-b1 c = fallen _ _ _ _ _ c.requires.0 c.requires.1 c.saturating_sub-down.ensures c.if-b0-b1.false
