use mathlib.Core.Path.{refl, sym, ap, ◌∙◌}
use mathlib.Core.List.{[]}
use native.Mathlib.Omega.{arith}
use Rattle.bits.specs.PartsLaws.{fill_start, fill_end}
use Rattle.frame.specs.Body.{bap_part, bap_row}
use Rattle.frame_rows.specs.RowsLaws.{channel-there, row-held}
use Rattle.bits.specs.Walks.{lent_is, lent-old, turn_more, turn-rest}
use Rattle.frame_rows.proofs.rows.allocate_row.Goals as goal

pub loop-c-init : goal.loop-c-init
loop-c-init c = record { filled = fill_start 256 0 _ [] refl; rest = refl }

pub allocate_part-requires-clause-part_ready : goal.allocate_part-requires-clause-part_ready
allocate_part-requires-clause-part_ready c =
    let g = c.args in
    let p = c.requires in
    let n = c.channels-n.result in
    let i = c.loop-c.c in
    let inside = c.loop-c-test.true in
    let there = channel-there c.channels-n.ensures i inside in
    let e = lent_is 256 n i inside g.row.now in
    let same = lent-old 256 n i inside c.loop-c.bap g.bap.now c.loop-c.invariant.rest in
    record {
      there = there;
      low = rw e (p.low_row.low i there);
      kept = λ z. same ∙ p.kept_bap.kept i there (sym c.set_at-set.ensures ∙ z) ∙ sym (ap (bap_part g.track.now.settings i) e);
    }

pub loop-c-preserved : goal.loop-c-preserved
loop-c-preserved c =
    let g = c.args in
    let n = c.channels-n.result in
    let i = c.loop-c.c in
    let inside = c.loop-c-test.true in
    let bap = c.loop-c.bap in
    let long = row-held c.channels-n.ensures (c.loop-c.auto.bap ∙ c.requires.b_bound.2) in
    let y = c.allocate_part.new.bap in
    let kept = c.allocate_part.auto.bap in
    let is = c.allocate_part.ensures ∙ ap (bap_part g.track.now.settings i) (lent_is 256 n i inside g.row.now) in
    record { filled = turn_more 256 n i inside bap y long kept _ c.loop-c.invariant.filled is; rest = turn-rest 256 n i inside bap y long kept g.bap.now c.loop-c.invariant.rest }

pub returns : goal.returns
unfolding bap_row
returns c =
    let e = c.channels-n.ensures.is in
    fill_end 256 c.loop-c.c _ _ _ (omega (arith, e, c.loop-c.auto)) (omega (arith, e, c.loop-c.auto, c.requires.b_bound.2)) c.loop-c.invariant.filled
