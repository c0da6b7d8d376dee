-- The sheet's refusal, or the work under an accepted sheet.
use mathlib.Core.Path.{refl, ◌∙◌}
use Rattle.std.proofs.lemmas.Result.{err_from_is_err_and}
use Rattle.frame.specs.AnswersLaws.{body_refused}
use Rattle.frame_writer.specs.AnswersLaws.{write-sheet, write-accepted}
use Rattle.frame_writer.proofs.write.write_body.Goals as goal

pub returns-in_err-track : goal.returns-in_err-track
returns-in_err-track c =
    let p = err_from_is_err_and c.from_residual.result c.from_residual.ensures.1 in
    record {
      value = rw (p.1, p.2) (write-sheet _ _ _ _ _ c.in_err-track.ensures);
      out_after = rw (p.1, p.2) (body_refused _ _ _ _ refl);
    }

pub returns : goal.returns
returns c =
    let t = c.in_ok-track.ensures in
    let done = rw t.1 at c.write_under.ensures in
    record {
      value = done.value ∙ write-accepted _ _ _ _ t.0;
      out_after = done.out_after;
    }
