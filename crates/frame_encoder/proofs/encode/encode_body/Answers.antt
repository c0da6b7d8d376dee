-- One way out for each cause, in the order of the table.
use mathlib.Core.Path.{refl, sym, ◌∙◌}
use Rattle.std.proofs.lemmas.Result.{err_from_is_err_and}
use Rattle.bits.specs.Tests.{held_false, held_true}
use Rattle.frame.specs.AnswersLaws.{body_refused}
use Rattle.frame_encoder.specs.EncodeLaws.{left-refused, fit-whole, answer-sheet, answer-length, answer-not-finite, answer-room}
use Rattle.frame_encoder.proofs.encode.encode_body.Goals as goal

pub returns-in_err-track : goal.returns-in_err-track
returns-in_err-track c =
    let p = err_from_is_err_and c.from_residual.result c.from_residual.ensures.1 in
    rw (p.1, p.2) (record {
      value = sym (answer-sheet c.args.sheet.now c.args.coeffs.now _ _ _ _ _ c.in_err-track.ensures);
      exps_after = left-refused _ _ _ _ refl;
      bap_after = left-refused _ _ _ _ refl;
      codes_after = left-refused _ _ _ _ refl;
      body_after = body_refused _ _ _ _ refl;
    })

pub returns-then-not-all_fit : goal.returns-then-not-all_fit
returns-then-not-all_fit c =
    let sheet = c.in_ok-track.ensures in
    let short = held_false (rw sheet.1 at c.all_fit.ensures) c.if-not-all_fit.true in record {
      value = sym (answer-length c.args.sheet.now c.args.coeffs.now _ _ _ _ sheet.0 short);
      exps_after = left-refused _ _ _ _ refl;
      bap_after = left-refused _ _ _ _ refl;
      codes_after = left-refused _ _ _ _ refl;
      body_after = body_refused _ _ _ _ refl;
    }

pub all_finite-requires : goal.all_finite-requires
all_finite-requires c = (fit-whole _ _ _ _ _ (held_true c.all_fit.ensures c.if-not-all_fit.false)).coeffs-long

pub returns-then-not-all_finite : goal.returns-then-not-all_finite
returns-then-not-all_finite c =
    let sheet = c.in_ok-track.ensures in
    let fit = held_true (rw sheet.1 at c.all_fit.ensures) c.if-not-all_fit.false in
    let some = held_false (rw sheet.1 at c.all_finite.ensures) c.if-not-all_finite.true in record {
      value = sym (answer-not-finite c.args.sheet.now c.args.coeffs.now _ _ _ _ sheet.0 fit some);
      exps_after = left-refused _ _ _ _ refl;
      bap_after = left-refused _ _ _ _ refl;
      codes_after = left-refused _ _ _ _ refl;
      body_after = body_refused _ _ _ _ refl;
    }

pub invariant_of-coeffs : goal.invariant_of-coeffs
invariant_of-coeffs c =
    record {
      encodable =
          record {
            whole = (fit-whole _ _ _ _ _ (held_true c.all_fit.ensures c.if-not-all_fit.false)).coeffs-long;
            finite = held_true c.all_finite.ensures c.if-not-all_finite.false;
          };
    }

pub encode_accepted-requires : goal.encode_accepted-requires
encode_accepted-requires c = (fit-whole _ _ _ _ _ (held_true c.all_fit.ensures c.if-not-all_fit.false)).buffers

pub returns : goal.returns
returns c =
    let sheet = c.in_ok-track.ensures in
    let fit = held_true (rw sheet.1 at c.all_fit.ensures) c.if-not-all_fit.false in
    let all = held_true (rw sheet.1 at c.all_finite.ensures) c.if-not-all_finite.false in
    let e = rw sheet.1 at c.encode_accepted.ensures in
    record {
      value = e.value ∙ sym (answer-room c.args.sheet.now c.args.coeffs.now _ _ _ _ sheet.0 fit all);
      exps_after = e.exps_after;
      bap_after = e.bap_after;
      codes_after = e.codes_after;
      body_after = e.body_after;
    }
