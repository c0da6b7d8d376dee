-- The sheet is tested first, then the lengths.
use mathlib.Core.Path.{◌∙◌}
use Rattle.std.proofs.lemmas.Result.{err_from_is_err_and}
use Rattle.bits.specs.Tests.{held_false, held_true}
use Rattle.reconstruct.proofs.AnswersLaws.{copy-sheet, copy-accepted, wrong-length, fit-whole}
use Rattle.reconstruct.proofs.body.reconstruct_body.Goals as goal

pub returns-in_err-track : goal.returns-in_err-track
returns-in_err-track c =
    let p = err_from_is_err_and c.from_residual.result c.from_residual.ensures.1 in
    let all = copy-sheet c.args.sheet.now c.args.exps.now c.args.codes.now c.args.has_level.now c.args.levels.now _ c.in_err-track.ensures in
    rw (p.1, p.2) (record { value = all.0; has_level_after = all.1.0; levels_after = all.1.1 })

pub returns-then-not-all_fit : goal.returns-then-not-all_fit
returns-then-not-all_fit c =
    let sheet = c.in_ok-track.ensures in
    let all = wrong-length _ c.args.exps.now c.args.codes.now c.args.has_level.now c.args.levels.now (held_false (rw sheet.1 at c.all_fit.ensures) c.if-not-all_fit.true) in
    record {
      value = all.0 ∙ copy-accepted c.args.sheet.now c.args.exps.now c.args.codes.now c.args.has_level.now c.args.levels.now sheet.0;
      has_level_after = all.1.0;
      levels_after = all.1.1;
    }

pub reconstruct_sized-requires : goal.reconstruct_sized-requires
reconstruct_sized-requires c = fit-whole _ _ _ _ _ (held_true c.all_fit.ensures c.if-not-all_fit.false)

pub returns : goal.returns
returns c =
    let sheet = c.in_ok-track.ensures in
    let done = rw sheet.1 at c.reconstruct_sized.ensures in
    record {
      value = done.value ∙ copy-accepted c.args.sheet.now c.args.exps.now c.args.codes.now c.args.has_level.now c.args.levels.now sheet.0;
      has_level_after = done.has_level_after;
      levels_after = done.levels_after;
    }
