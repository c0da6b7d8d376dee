use mathlib.Core.List.{[]}
use Rattle.bits.specs.PartsLaws.{tab-start}
use Rattle.frame_body.specs.Writing.{counts_from}
use Rattle.frame_body.proofs.Counting.{two-more, two-end}
use native.Mathlib.Omega.{arith}
use Rattle.frame_body.proofs.count.count_body.Goals as goal

pub loop-b-init : goal.loop-b-init
loop-b-init c = (omega arith, tab-start _ [], tab-start _ [])

pub loop-b-preserved : goal.loop-b-preserved
loop-b-preserved c =
    let l = c.loop-b in
    two-more _ _ l.counts l.b l.invariant.0 l.invariant.1 l.invariant.2 _ _ c.loop-b-test.true c.count_sets.ensures c.count_block.ensures

pub returns : goal.returns
unfolding counts_from
returns c = let l = c.loop-b in two-end _ _ l.counts l.b l.invariant.0 l.invariant.1 l.invariant.2 (omega (arith, l.auto))
