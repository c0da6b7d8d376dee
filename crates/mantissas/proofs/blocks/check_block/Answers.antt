use Rattle.std.proofs.Common.{arith}
use Rattle.mantissas.proofs.Joining.{fits-start, fits_more, fits-block}
use Rattle.mantissas.proofs.blocks.check_block.Goals as goal

pub loop-c-init : goal.loop-c-init
loop-c-init c = fits-start _

pub loop-c-preserved : goal.loop-c-preserved
loop-c-preserved c = fits_more _ _ _ _ _ c.loop-c.invariant c.check_baps-all.ensures c.part_baps.ensures.baps

pub returns : goal.returns
returns c = fits-block _ _ _ _ c.loop-c.invariant (omega (arith, c.channels-c-end.ensures.is))
