-- The clean codes are tested and written, and they are answered as the codes are.
use mathlib.Core.Path.{refl, ap, ◌∙◌}
use native.Mathlib.Omega.{arith}
use lib.ListN.{length}
use Rattle.bits.specs.Tests.{held_false, held_true}
use Rattle.frame.specs.AnswersLaws.{body_refused}
use Rattle.frame.specs.Legal.{LegalFrame}
use Rattle.frame.specs.Layout.{cleaned}
use Rattle.frame_rows.specs.RowsLaws.{length-baps}
use Rattle.frame_rows.specs.CleanLaws.{cleaned-again, cleaned-bits, cleaned-legal}
use Rattle.frame_rows.specs.TestsLaws.{rows-coded}
use Rattle.frame_writer.specs.AnswersLaws.{write-bad-codes, write-cleaned}
use Rattle.std.proofs.lemmas.Grind.{common_steps}
use Rattle.frame_writer.proofs.write.write_shaped.Goals as goal

pub codes_legal-requires : goal.codes_legal-requires
codes_legal-requires c =
    let bap = ap length c.requires.exps_value.1 ∙ length-baps c.args.track.now.settings c.args.exps.now in
    (bap, grind (arith, common_steps))

pub returns-then-not-codes_legal : goal.returns-then-not-codes_legal
returns-then-not-codes_legal c =
    let g = c.args in
    let p = c.requires in
    let settings = g.track.now.settings in
    let test = (rw (c.clean_codes.ensures, p.exps_value.1) at c.codes_legal.ensures) ∙ rows-coded settings g.exps.now g.codes.now g.track.now.legal p.lengths.codes-long in
    record {
      value = write-bad-codes settings g.exps.now g.codes.now _ p.lengths p.exps_value.0 (held_false test c.if-not-codes_legal.true);
      out_after = body_refused _ _ _ _ refl;
    }

pub write_legal-requires-clause-legal_frame : goal.write_legal-requires-clause-legal_frame
write_legal-requires-clause-legal_frame c =
    let g = c.args in
    let p = c.requires in
    let settings = g.track.now.settings in
    let exps = g.exps.now in
    let codes = g.codes.now in
    let clean = c.clean_codes.ensures in
    let test = (rw (clean, p.exps_value.1) at c.codes_legal.ensures) ∙ rows-coded settings exps codes g.track.now.legal p.lengths.codes-long in
    let coded = cleaned-legal settings codes g.track.now.legal p.lengths.codes-long exps ∙ held_true test c.if-not-codes_legal.false in
    let legal : LegalFrame settings exps (cleaned settings codes) = record { shaped = p.exps_value.0; coded = coded } in
    rw clean legal

pub write_legal-requires-clause-bap_value : goal.write_legal-requires-clause-bap_value
write_legal-requires-clause-bap_value c =
    let g = c.args in
    (c.requires.exps_value.1, rw c.clean_codes.ensures (cleaned-again g.track.now.settings g.codes.now g.track.now.legal c.requires.lengths.codes-long))

pub returns : goal.returns
returns c =
    let g = c.args in
    let p = c.requires in
    let settings = g.track.now.settings in
    let exps = g.exps.now in
    let codes = g.codes.now in
    let clean = c.clean_codes.ensures in
    let answer = rw clean at c.write_legal.ensures.value in
    let left = rw (clean, cleaned-bits settings codes g.track.now.legal p.lengths.codes-long exps) at c.write_legal.ensures.out_after in
    record {
      value = answer ∙ write-cleaned settings exps codes _ g.track.now.legal p.lengths.codes-long;
      out_after = left;
    }
