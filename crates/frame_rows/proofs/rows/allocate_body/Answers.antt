use mathlib.Core.Path.{sym, ap, ◌∙◌}
use mathlib.Core.List.{◌++◌}
use Prim.Native.Nat.{ℕ, ◌*◌, ◌-◌, ◌≤◌}
use native.Mathlib.Numerals.{add-one}
use native.Mathlib.Nat.{sub-zero}
use native.Mathlib.Omega.{arith}
use lib.ListN.{length, take, drop}
use Rattle.std.proofs.lemmas.List.{length-replicate}
use Rattle.bits.specs.PartsLaws.{fill_start, fill_end}
use Rattle.sheet.specs.Sizes.{most_row}
use Rattle.frame.specs.Body.{bap_row, baps_of}
use Rattle.frame_rows.specs.LegalLaws.{legal-low, kept-first, kept_next}
use Rattle.frame_rows.specs.RowsLaws.{back_whole, back-taken, row-lent, buffer_held}
use Rattle.bits.specs.Walks.{turn_more}
use Rattle.frame_rows.proofs.rows.allocate_body.Goals as goal

pub loop-b-init : goal.loop-b-init
loop-b-init c =
    let g = c.args in
    let p = c.requires in
    record {
      long = length-replicate {A = ℕ} most_row 0;
      kept = λ l. kept-first g.track.now.settings g.exps.now g.track.now.legal p.exps_len.0 p.exps_value _;
      filled = fill_start (256 * c.channels-n.result) (256 * c.channels-n.result * 0) _ _ (omega arith);
    }

pub allocate_row-requires-clause-low_row : goal.allocate_row-requires-clause-low_row
allocate_row-requires-clause-low_row c =
    let g = c.args in
    let b = c.loop-b.b in
    rw (row-lent c.channels-n.ensures b g.exps.now) (legal-low g.track.now.settings g.exps.now g.track.now.legal c.requires.exps_len.0 c.requires.exps_value b c.loop-b-test.true)

pub allocate_row-requires-clause-kept_bap : goal.allocate_row-requires-clause-kept_bap
allocate_row-requires-clause-kept_bap c =
    rw (row-lent c.channels-n.ensures c.loop-b.b c.args.exps.now, sub-zero (256 * c.channels-n.result)) (c.loop-b.invariant.kept c.loop-b-test.true)

pub loop-b-preserved : goal.loop-b-preserved
loop-b-preserved c =
    let g = c.args in
    let p = c.requires in
    let settings = g.track.now.settings in
    let z = 256 * c.channels-n.result in
    let b = c.loop-b.b in
    let row = c.loop-b.row in
    let y = c.allocate_row.new.bap in
    let back = c.allocate_row.auto.bap in
    let fits : z ≤ length row = omega (arith, c.channels-n.ensures.most, c.loop-b.invariant.long) in
    let is = c.allocate_row.ensures ∙ ap (bap_row settings) (row-lent c.channels-n.ensures b g.exps.now) in
    let front = ap (λ (k : ℕ). take k (y ++ drop (z - 0) row)) (sym (sub-zero z)) ∙ back-taken z row y fits back ∙ is in
    let same = c.copy_from_slice.ensures.after ∙ back-taken z row y fits back in
    let whole = buffer_held c.channels-n.ensures (c.loop-b.auto.bap ∙ p.exps_len.1) in
    record {
      long = back_whole z row y fits back ∙ c.loop-b.invariant.long;
      kept = λ l. rw (add-one b, front) (kept_next settings g.exps.now g.track.now.legal p.exps_len.0 p.exps_value b (omega (arith, l)));
      filled = turn_more z 6 b c.loop-b-test.true c.loop-b.bap c.copy_from_slice.new.self whole c.copy_from_slice.auto.self _ c.loop-b.invariant.filled (same ∙ is);
    }

pub returns : goal.returns
unfolding baps_of
returns c =
    fill_end (256 * c.channels-n.result) c.loop-b.b 6 _ _ (omega (arith, c.loop-b.auto)) (omega (arith, c.loop-b.auto, c.channels-n.ensures.is, c.requires.exps_len.1)) c.loop-b.invariant.filled
