use Rattle.std.proofs.Common.{refl}
use Rattle.mantissas.proofs.Joining.{fits-start, fits_more}
use Rattle.mantissas.proofs.blocks.check_blocks.Goals as goal

pub loop-block-init : goal.loop-block-init
loop-block-init c = fits-start _

pub loop-block-preserved : goal.loop-block-preserved
loop-block-preserved c = fits_more _ _ _ _ _ c.loop-block.invariant c.check_block-all.ensures refl
