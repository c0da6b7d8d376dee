use Prim.Native.Nat.{ℕ, ◌+◌, ◌-◌, ◌*◌, ◌≤◌}
use mathlib.Core.List.{◌++◌}
use mathlib.Core.Path.{◌≡◌, refl, ap, ◌∙◌}
use native.Mathlib.Omega.{arith}
use lib.ListN.{length, take, drop, length-take, length-append, length-drop}
use Rattle.std.proofs.lemmas.List.{length-replicate}
use lib.Seq.{take_at}
use Rattle.bits.specs.PartsLaws.{within, fill_start, fill_more, fill_end, front-taken}
use Rattle.sheet.specs.Sizes.{most_row}
use Rattle.frame_rows.specs.RowsLaws.{buffer_held}
use Rattle.frame_runs.specs.Carried.{row_at, row_before}
use Rattle.frame_runs.specs.CarriedLaws.{carried_first, carried_on}
use Rattle.frame.specs.Layout.{framed}
use Rattle.frame_runs.specs.Runs.{exps_of}
use Rattle.frame_runs.proofs.rows.fill_exponents.Goals as goal

pub loop-b-init : goal.loop-b-init
loop-b-init c =
    (length-replicate {A = ℕ} most_row 0, carried_first _ _ _ c.channels-n.ensures.is, fill_start 256 (256 * c.channels-n.result * 0) _ _ (omega arith))

pub loop-b-preserved : goal.loop-b-preserved
loop-b-preserved c =
    let z = 256 * c.channels-n.result in
    let b = c.loop-b.b in
    let a = z * b in
    let old = c.loop-b.row in
    let k : a + z - a ≡ z = omega arith in
    let j : z - 0 ≡ z = omega arith in
    let h : z * b + z ≤ length c.loop-b.exps = omega (arith, within z b 6 c.loop-b-test.true, c.loop-b.auto.exps, buffer_held c.channels-n.ensures c.requires) in
    let y = c.next_row.new.row in
    let n : length y ≡ z = c.next_row.auto.row ∙ rw length-take (omega (arith, c.channels-n.ensures.most, c.loop-b.invariant.0)) in
    let before : take (z - 0) old ≡ row_before c.args.coeffs.now.track.now.settings c.args.coeffs.now.values.now b = rw j c.loop-b.invariant.1 in
    let next = carried_on c.args.coeffs.now.track.now.settings c.args.coeffs.now.values.now c.args.coeffs.now.track.now.legal c.args.coeffs.now.encodable.whole b (take (z - 0) old) y c.loop-b-test.true before c.next_row.ensures in
    let x = c.copy_from_slice.new.self in
    let same : x ≡ y = c.copy_from_slice.ensures.after ∙ front-taken z (z - 0) old y j n in
    let row : length (y ++ drop (z - 0) old) ≡ most_row = rw (length-append, length-drop) (omega (arith, c.loop-b.invariant.0, n, c.channels-n.ensures.most)) in (
      row,
      take_at y (drop (z - 0) old) z n ∙ next.1,
      fill_more z b a (a + z - a) (row_at c.args.coeffs.now.track.now.settings c.args.coeffs.now.values.now) c.loop-b.exps x refl k h (ap length same ∙ n) c.loop-b.invariant.2 (same ∙ next.0),
    )

pub returns : goal.returns
unfolding exps_of framed row_at
returns c = fill_end (256 * c.channels-n.result) c.loop-b.b 6 (row_at c.args.coeffs.now.track.now.settings c.args.coeffs.now.values.now) _ (omega arith) (c.loop-b.auto.exps ∙ buffer_held c.channels-n.ensures c.requires) c.loop-b.invariant.2
