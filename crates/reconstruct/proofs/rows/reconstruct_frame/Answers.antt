use mathlib.Core.Path.{ap, ◌∙◌}
use Prim.Native.Nat.{◌*◌}
use native.Mathlib.Omega.{arith}
use lib.ListN.{length}
use Rattle.bits.specs.PartsLaws.{fill_start, fill_end}
use Rattle.frame_rows.specs.RowsLaws.{row_inside, row-lent, length-baps, buffer_held}
use Rattle.bits.specs.Walks.{turn_more}
use Rattle.reconstruct.specs.Bin.{flag_of, level_of}
use Rattle.reconstruct.specs.Copy.{flags_of, levels_of}
use Rattle.reconstruct.specs.CopyLaws.{row-legal, frame_made}
use Rattle.reconstruct.proofs.rows.reconstruct_frame.Goals as goal

pub loop-b-init : goal.loop-b-init
loop-b-init c =
    let a = 256 * c.channels-n.result * 0 in
    (fill_start 256 a _ c.args.has_level.now (omega arith), fill_start 256 a _ c.args.levels.now (omega arith))

pub slice_bounds-reconstruct_row-end-in-loop-b : goal.slice_bounds-reconstruct_row-end-in-loop-b
slice_bounds-reconstruct_row-end-in-loop-b c =
    omega (arith, row_inside c.channels-n.ensures _ c.loop-b-test.true, c.channels-n.ensures.is, ap length c.requires.legal_frame.1 ∙ length-baps c.args.track.now.settings c.args.exps.now)

pub reconstruct_row-requires-clause-legal_row : goal.reconstruct_row-requires-clause-legal_row
reconstruct_row-requires-clause-legal_row c =
    let many = c.channels-n.ensures in
    let b = c.loop-b.b in
    rw (row-lent many b c.args.exps.now, row-lent many b c.args.bap.now, row-lent many b c.args.codes.now, c.requires.legal_frame.1)
    (row-legal c.args.track.now.settings c.args.exps.now c.args.codes.now c.args.track.now.legal c.requires.legal_frame.0 c.requires.whole.exps-long c.requires.whole.codes-long b c.loop-b-test.true)

pub loop-b-preserved : goal.loop-b-preserved
loop-b-preserved c =
    let l = c.loop-b in
    let h = c.loop-b-test.true in
    let z = 256 * c.channels-n.result in
    let many = c.channels-n.ensures in
    let r = c.reconstruct_row in
    let exps = row-lent many l.b c.args.exps.now in
    let codes = row-lent many l.b c.args.codes.now in (
      turn_more z 6 l.b h l.has_level r.new.has_level (buffer_held many (l.auto.has_level ∙ c.requires.whole.flags_long)) r.auto.has_level _ l.invariant.0 (rw (exps, codes) at r.ensures.has_level_after),
      turn_more z 6 l.b h l.levels r.new.levels (buffer_held many (l.auto.levels ∙ c.requires.whole.levels-long)) r.auto.levels _ l.invariant.1 (rw (exps, codes) at r.ensures.levels_after),
    )

pub returns : goal.returns
unfolding flags_of levels_of
returns c =
    let z = 256 * c.channels-n.result in
    let many = c.channels-n.ensures in
    let l = c.loop-b in record {
      has_level_after = frame_made flag_of _ _ _ _ (fill_end z l.b 6 _ _ (omega arith) (buffer_held many (l.auto.has_level ∙ c.requires.whole.flags_long)) l.invariant.0);
      levels_after = frame_made level_of _ _ _ _ (fill_end z l.b 6 _ _ (omega arith) (buffer_held many (l.auto.levels ∙ c.requires.whole.levels-long)) l.invariant.1);
    }
