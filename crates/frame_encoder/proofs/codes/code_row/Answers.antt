use mathlib.Core.Path.{refl, ap, ◌∙◌}
use native.Mathlib.Omega.{arith}
use lib.ListN.{length}
use Rattle.bits.specs.PartsLaws.{fill_start}
use Rattle.frame_rows.specs.RowsLaws.{channel-there, row-held, length-baps}
use Rattle.bits.specs.Walks.{lent-long, turn_more}
use Rattle.frame_encoder.specs.CodesLaws.{codable-part, part-is, end-held}
use Rattle.frame_encoder.proofs.codes.code_row.Goals as goal

pub loop-c-init : goal.loop-c-init
loop-c-init c = fill_start 256 0 _ c.args.row.now refl

pub below_end-requires-in-loop-c-2 : goal.below_end-requires-in-loop-c-2
below_end-requires-in-loop-c-2 c = (c.requires.b_bound.0, channel-there c.channels-n.ensures _ c.loop-c-test.true, ap length c.requires.allocated.is ∙ length-baps _ _)

pub code_part-requires-clause-codable : goal.code_part-requires-clause-codable
code_part-requires-clause-codable c =
    let f = c.args.coeffs.now in
    rw (c.below_end.ensures.value, c.below_end-in-loop-c.ensures.value, c.below_end-in-loop-c-2.ensures.value)
    (codable-part f.track.now.settings f.track.now.legal c.args.b c.loop-c.c c.requires.b_bound.0 (channel-there c.channels-n.ensures _ c.loop-c-test.true) _ _ _ f.encodable c.requires.allocated)

pub code_part-requires-clause-coeffs_len_bound : goal.code_part-requires-clause-coeffs_len_bound
code_part-requires-clause-coeffs_len_bound c =
    let f = c.args.coeffs.now in
    let l = c.loop-c in (
      omega (arith, c.below_end.ensures.len, end-held f.track.now.settings f.track.now.legal c.args.b l.c c.requires.b_bound.0 (channel-there c.channels-n.ensures _ c.loop-c-test.true)),
      lent-long 256 c.channels-n.result l.c c.loop-c-test.true l.row (row-held c.channels-n.ensures (l.auto.row ∙ c.requires.b_bound.1)),
    )

pub loop-c-preserved : goal.loop-c-preserved
loop-c-preserved c =
    let f = c.args.coeffs.now in
    let l = c.loop-c in
    let many = c.channels-n.ensures in
    let h = c.loop-c-test.true in
    let is = rw (c.below_end.ensures.value, c.below_end-in-loop-c.ensures.value, c.below_end-in-loop-c-2.ensures.value) at c.code_part.ensures in
    turn_more 256 c.channels-n.result l.c h l.row c.code_part.new.part (row-held many (l.auto.row ∙ c.requires.b_bound.1)) c.code_part.auto.part _ l.invariant
    (is ∙ part-is f.track.now.settings f.track.now.legal c.args.b l.c c.requires.b_bound.0 (channel-there many l.c h) f.values.now c.args.exps.now c.args.bap.now f.encodable.whole)
