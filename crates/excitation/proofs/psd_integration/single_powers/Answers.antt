use native.Mathlib.Omega.{arith}
use Rattle.excitation.specs.FrontLaws.{front-none, front-more}
use Rattle.excitation.proofs.Joining.{single}
use Rattle.excitation.proofs.psd_integration.single_powers.Goals as goal

pub loop-bin-init : goal.loop-bin-init
loop-bin-init c = front-none _ _

pub loop-bin-preserved : goal.loop-bin-preserved
loop-bin-preserved c = front-more _ _ _ _ _ (omega arith) c.loop-bin.invariant (single _ _ _ _ (omega arith) (omega arith) c.psd.ensures)
