use mathlib.Core.Path.{refl, ap, ◌∙◌}
use native.Mathlib.Omega.{arith}
use lib.ListN.{length}
use Rattle.bits.specs.PartsLaws.{fill_start, fill_end}
use Rattle.frame.specs.LayoutLaws.{length-bap_row}
use Rattle.frame_rows.specs.RowsLaws.{channel-there, row-held}
use Rattle.bits.specs.Walks.{turn_more}
use Rattle.reconstruct.specs.Bin.{flag_of, level_of}
use Rattle.reconstruct.specs.CopyLaws.{part-lent, part_room, part-legal, row-part, row_made}
use Rattle.reconstruct.proofs.rows.reconstruct_row.Goals as goal

pub loop-c-init : goal.loop-c-init
loop-c-init c =
    (fill_start 256 0 _ c.args.has_level.now refl, fill_start 256 0 _ c.args.levels.now refl)

pub slice_bounds-reconstruct_part-end-in-loop-c : goal.slice_bounds-reconstruct_part-end-in-loop-c
slice_bounds-reconstruct_part-end-in-loop-c c = part_room c.channels-n.ensures c.end_at.ensures c.loop-c-test.true c.args.bap.now (ap length c.requires.legal_row.is ∙ length-bap_row _ _)

pub reconstruct_part-requires-clause-legal_bins : goal.reconstruct_part-requires-clause-legal_bins
reconstruct_part-requires-clause-legal_bins c =
    let many = c.channels-n.ensures in
    let ends = c.end_at.ensures in
    let h = c.loop-c-test.true in
    rw (part-lent many ends h c.args.exps.now, part-lent many ends h c.args.bap.now, part-lent many ends h c.args.codes.now)
    (part-legal c.args.track.now.settings _ _ _ c.args.track.now.legal c.requires.legal_row c.loop-c.c (channel-there many c.loop-c.c h))

pub loop-c-preserved : goal.loop-c-preserved
loop-c-preserved c =
    let l = c.loop-c in
    let h = c.loop-c-test.true in
    let n = c.channels-n.result in
    let many = c.channels-n.ensures in
    let below = channel-there many l.c h in
    let r = c.reconstruct_part in
    let exps = part-lent many c.end_at.ensures h c.args.exps.now in
    let bap = part-lent many c.end_at.ensures h c.args.bap.now in
    let codes = part-lent many c.end_at.ensures h c.args.codes.now in
    let flags = (rw (exps, bap, codes) at r.ensures.has_level_after) ∙ row-part c.args.track.now.settings _ _ _ c.args.track.now.legal c.requires.legal_row l.c below flag_of in
    let levels = (rw (exps, bap, codes) at r.ensures.levels_after) ∙ row-part c.args.track.now.settings _ _ _ c.args.track.now.legal c.requires.legal_row l.c below level_of in (
      turn_more 256 n l.c h l.has_level r.new.has_level (row-held many (l.auto.has_level ∙ c.requires.has_level_len.0)) r.auto.has_level _ l.invariant.0 flags,
      turn_more 256 n l.c h l.levels r.new.levels (row-held many (l.auto.levels ∙ c.requires.has_level_len.1)) r.auto.levels _ l.invariant.1 levels,
    )

pub returns : goal.returns
returns c =
    let l = c.loop-c in
    let n = c.channels-n.ensures.is in record {
      has_level_after = row_made flag_of _ _ _ _ (fill_end 256 l.c _ _ _ (omega (arith, n)) (l.auto.has_level ∙ c.requires.has_level_len.0) l.invariant.0);
      levels_after = row_made level_of _ _ _ _ (fill_end 256 l.c _ _ _ (omega (arith, n)) (l.auto.levels ∙ c.requires.has_level_len.1) l.invariant.1);
    }
