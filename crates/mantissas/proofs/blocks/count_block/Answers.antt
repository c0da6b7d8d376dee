use Rattle.std.proofs.Common.{refl, arith}
use Rattle.mantissas.specs.Blocks.{part_baps}
use Rattle.mantissas.proofs.Joining.{part-below, tally-start, tally-more, tally-block}
use Rattle.mantissas.proofs.blocks.count_block.Goals as goal

pub loop-c-init : goal.loop-c-init
loop-c-init c = (tally-start _, omega arith)

pub tally_part-tally-requires-clause-below : goal.tally_part-tally-requires-clause-below
tally_part-tally-requires-clause-below c = part-below _ _ _ _ c.requires.below (omega (arith, c.channels-c-end.ensures.is))

pub loop-c-preserved : goal.loop-c-preserved
loop-c-preserved c =
    let part = part_baps c.args.track.now.settings c.args.bap.now c.args.block c.loop-c.c in
    (tally-more _ _ part _ _ c.loop-c.invariant.0 (omega (arith, c.tally_part-tally.ensures.0)) refl, omega (arith, c.tally_part-tally.ensures.1))

pub returns : goal.returns
returns c =
    tally-block c.args.bap.now c.args.block _ _ _ c.args.track.now.legal c.requires.below c.loop-c.invariant.0 (omega (arith, c.channels-c-end.ensures.is)) c.bits_of.ensures
