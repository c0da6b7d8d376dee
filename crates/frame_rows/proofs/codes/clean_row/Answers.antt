use mathlib.Core.Path.{refl, ◌∙◌}
use mathlib.Core.List.{[]}
use native.Mathlib.Omega.{arith}
use Rattle.bits.specs.PartsLaws.{fill_start, fill_end}
use Rattle.frame.specs.Layout.{clean_row}
use Rattle.frame_rows.specs.RowsLaws.{row-held}
use Rattle.bits.specs.Walks.{lent_is, turn_more}
use Rattle.frame_rows.proofs.codes.clean_row.Goals as goal

pub loop-c-init : goal.loop-c-init
loop-c-init c = fill_start 256 0 _ [] refl

pub loop-c-preserved : goal.loop-c-preserved
loop-c-preserved c =
    let n = c.channels-n.result in
    let i = c.loop-c.c in
    let inside = c.loop-c-test.true in
    let is = rw (lent_is 256 n i inside c.args.codes.now, c.end_at-end.ensures.is) at c.clean_part.ensures in
    turn_more 256 n i inside c.loop-c.to c.clean_part.new.to (row-held c.channels-n.ensures (c.loop-c.auto.to ∙ c.requires.1)) c.clean_part.auto.to _ c.loop-c.invariant is

pub returns : goal.returns
unfolding clean_row
returns c =
    let e = c.channels-n.ensures.is in
    fill_end 256 c.loop-c.c _ _ _ (omega (arith, e, c.loop-c.auto)) (omega (arith, e, c.loop-c.auto, c.requires.1)) c.loop-c.invariant
