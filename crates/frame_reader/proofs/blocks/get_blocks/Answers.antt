use Prim.Native.Nat.{ℕ, ◌+◌, ◌-◌, ◌*◌}
use mathlib.Core.Path.{◌≡◌, refl, ap, ◌∙◌}
use native.Mathlib.Omega.{arith}
use Rattle.std.proofs.lemmas.Result.{err_from_is_err_and}
use Rattle.bits.specs.FieldLaws.{length-bits_of}
use Rattle.frame_rows.specs.RowsLaws.{row-long}
use Rattle.frame_reader.proofs.SixBlocks.{blocks_start, frame-fault, blocks_more, frame-good}
use Rattle.frame_reader.proofs.blocks.get_blocks.Goals as goal

pub loop-b-init : goal.loop-b-init
loop-b-init c =
    let p = c.requires in
    (omega arith, blocks_start _ _ _ _ _ _ _ _ c.args.track.now.legal p.row_value.0 p.row_value.1 p.lengths refl)

pub get_block-requires-clause-pos_bound : goal.get_block-requires-clause-pos_bound
get_block-requires-clause-pos_bound c =
    let t = c.loop-b.invariant.1 in
    (rw length-bits_of at t.inside, omega (arith, t.near, c.loop-b.invariant.0))

pub returns-in_err-end : goal.returns-in_err-end
returns-in_err-end c =
    let p = err_from_is_err_and c.from_residual.result c.from_residual.ensures.1 in
    rw (p.1, p.2) (frame-fault c.loop-b.invariant.1 c.loop-b-test.true _ c.in_err-end.ensures)

pub loop-b-preserved : goal.loop-b-preserved
loop-b-preserved c =
    let t = c.loop-b.invariant.1 in
    let many = c.channels-z.ensures in
    let b = c.loop-b.b in
    let z = 256 * c.channels-z.result in
    let inside = c.loop-b-test.true in
    let codes = c.get_block.auto.codes ∙ row-long many _ inside c.loop-b.codes t.long.codes-long in (
      omega (arith, inside),
      blocks_more t inside c.in_ok-end.ensures (z * b) (z * b + z - z * b) _ _ (ap (λ (n : ℕ). 256 * n * b) many.is) (omega (arith, many.is)) c.copy_from_slice.ensures.after c.copy_from_slice-in-loop-b.ensures.after codes,
    )

pub returns : goal.returns
returns c =
    let e : c.loop-b.b ≡ 6 = omega (arith, c.loop-b.invariant.0, c.loop-b-test.false) in
    frame-good (rw e at c.loop-b.invariant.1)
