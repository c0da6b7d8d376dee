use Prim.Native.Nat.{◌*◌}
use mathlib.Core.Path.{◌∙◌}
use native.Mathlib.Omega.{arith}
use Rattle.bits.specs.PartsLaws.{fill_start, fill_end}
use Rattle.frame_rows.specs.RowsLaws.{buffer_held}
use Rattle.bits.specs.Walks.{turn_more}
use Rattle.frame.specs.Layout.{framed}
use Rattle.frame_encoder.specs.Codes.{codes_at}
use Rattle.frame_encoder.proofs.codes.code_frame.Goals as goal

pub loop-b-init : goal.loop-b-init
loop-b-init c = fill_start 256 (256 * c.channels-n.result * 0) _ _ (omega arith)

pub loop-b-preserved : goal.loop-b-preserved
loop-b-preserved c =
    let l = c.loop-b in
    let long = buffer_held c.channels-n.ensures (l.auto.codes ∙ c.requires.codes_len) in
    turn_more (256 * c.channels-n.result) 6 l.b c.loop-b-test.true l.codes c.code_row.new.row long c.code_row.auto.row _ l.invariant c.code_row.ensures

pub returns : goal.returns
unfolding codes_at framed
returns c = fill_end (256 * c.channels-n.result) c.loop-b.b 6 _ _ (omega arith) (buffer_held c.channels-n.ensures (c.loop-b.auto.codes ∙ c.requires.codes_len)) c.loop-b.invariant
