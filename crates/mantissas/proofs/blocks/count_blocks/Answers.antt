use Rattle.std.specs.Prelude.{refl, replicate}
use Rattle.std.proofs.Common.{arith, length-set}
use Rattle.bits.specs.PartsLaws.{tab-start, tab-more, tab-end}
use Rattle.mantissas.proofs.Joining.{below-joined}
use Rattle.mantissas.proofs.blocks.count_blocks.Goals as goal

pub loop-block-init : goal.loop-block-init
loop-block-init c = (tab-start _ (replicate 6 0), refl)

pub count_block-requires-clause-below : goal.count_block-requires-clause-below
count_block-requires-clause-below c = below-joined _ _ _ c.requires.below (omega arith)

pub loop-block-preserved : goal.loop-block-preserved
loop-block-preserved c =
    let l = c.loop-block in
    (tab-more _ _ _ _ (omega arith) l.invariant.0 c.count_block.ensures, simp length-set l.invariant.1)

pub returns : goal.returns
returns c = let l = c.loop-block in tab-end _ _ l.block 6 (omega arith) l.invariant.1 l.invariant.0
