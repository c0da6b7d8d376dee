use mathlib.Core.Path.{refl, ◌∙◌}
use native.Mathlib.Omega.{arith}
use Rattle.sheet.specs.Settings.{channels}
use Rattle.bits.specs.PartsLaws.{fill_start, fill_end}
use Rattle.frame_rows.specs.RowsLaws.{row-held}
use Rattle.bits.specs.Walks.{lent-old, turn_more, turn-rest}
use Rattle.frame_runs.specs.Carried.{next_row}
use Rattle.frame_runs.proofs.rows.next_row.Goals as goal

pub loop-c-init : goal.loop-c-init
loop-c-init c = (fill_start 256 0 _ c.args.row.now refl, refl)

pub loop-c-preserved : goal.loop-c-preserved
loop-c-preserved c =
    let l = c.loop-c in
    let n = c.channels-n.result in
    let h = c.loop-c-test.true in
    let long = row-held c.channels-n.ensures (l.auto.row ∙ c.requires.1) in
    let y = c.next_part.new.part in
    let kept = c.next_part.auto.part in
    let old = lent-old 256 n l.c h l.row c.args.row.now l.invariant.1 in (
      turn_more 256 n l.c h l.row y long kept _ l.invariant.0 (rw old at c.next_part.ensures),
      turn-rest 256 n l.c h l.row y long kept c.args.row.now l.invariant.1,
    )

pub returns : goal.returns
unfolding next_row
returns c = fill_end 256 c.loop-c.c (channels c.args.coeffs.now.track.now.settings) _ _ (omega (arith, c.channels-n.ensures.is)) (c.loop-c.auto.row ∙ c.requires.1) c.loop-c.invariant.0
