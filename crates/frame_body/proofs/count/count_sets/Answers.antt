use mathlib.Core.Path.{◌≡◌, refl, ap₂, ◌∙◌}
use Rattle.sheet.specs.Settings.{channels}
use Rattle.mantissas.specs.Formula.{sum}
use Rattle.frame.specs.Under.{channel-known}
use Rattle.frame_rows.specs.RowsLaws.{channel-there}
use Rattle.frame_body.specs.Counts.{set_count}
use Rattle.frame_body.specs.Writing.{sets_count}
use Rattle.frame_body.proofs.Counting.{sum-turn}
use native.Mathlib.Omega.{arith}
use Rattle.frame_body.proofs.count.count_sets.Goals as goal

pub loop-c-init : goal.loop-c-init
unfolding sum
loop-c-init c = (omega arith, refl)

pub count_set-count-requires : goal.count_set-count-requires
count_set-count-requires c =
    rw c.end_at-end.ensures.is (channel-known _ c.args.track.now.legal _ (channel-there c.channels-n.ensures _ c.loop-c-test.true)).legal

pub loop-c-preserved : goal.loop-c-preserved
loop-c-preserved c =
    let q = c.count_set-count.ensures.0 ∙ ap₂ set_count c.set_at-set.ensures c.end_at-end.ensures.is in
    (omega (arith, c.count_set-count.ensures.1, c.loop-c.invariant.0), sum-turn _ _ _ _ c.loop-c.invariant.1 q)

pub returns : goal.returns
unfolding sets_count
returns c =
    let e : c.loop-c.c ≡ channels c.args.track.now.settings = omega (arith, c.channels-n.ensures.is, c.loop-c.auto) in
    rw e at c.loop-c.invariant.1
