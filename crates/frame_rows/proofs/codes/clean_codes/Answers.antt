use mathlib.Core.Path.{ap, ◌∙◌}
use Prim.Native.Nat.{◌*◌}
use native.Mathlib.Omega.{arith}
use Rattle.bits.specs.PartsLaws.{fill_start, fill_end}
use Rattle.frame.specs.Layout.{clean_row, cleaned}
use Rattle.frame_rows.specs.RowsLaws.{row-lent, buffer_held}
use Rattle.bits.specs.Walks.{turn_more}
use Rattle.frame_rows.proofs.codes.clean_codes.Goals as goal

pub loop-b-init : goal.loop-b-init
loop-b-init c = fill_start (256 * c.channels-n.result) (256 * c.channels-n.result * 0) _ _ (omega arith)

pub loop-b-preserved : goal.loop-b-preserved
loop-b-preserved c =
    let z = 256 * c.channels-n.result in
    let b = c.loop-b.b in
    let is = c.clean_row.ensures ∙ ap (clean_row c.args.track.now.settings) (row-lent c.channels-n.ensures b c.args.codes.now) in
    turn_more z 6 b c.loop-b-test.true c.loop-b.to c.clean_row.new.to (buffer_held c.channels-n.ensures (c.loop-b.auto.to ∙ c.requires.1)) c.clean_row.auto.to _ c.loop-b.invariant is

pub returns : goal.returns
unfolding cleaned
returns c = fill_end (256 * c.channels-n.result) c.loop-b.b 6 _ _ (omega (arith, c.loop-b.auto)) (omega (arith, c.loop-b.auto, c.channels-n.ensures.is, c.requires.1)) c.loop-b.invariant
