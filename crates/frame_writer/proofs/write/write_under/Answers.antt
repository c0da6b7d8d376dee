-- Both buffers have the sheet's length, or 10.
use mathlib.Core.Path.{◌≡◌, refl, sym, ap, ◌∙◌}
use lib.ListN.{length}
use Rattle.std.proofs.Common.{⊎_elim}
use Rattle.sheet.specs.Layout.{buffer_length}
use Rattle.frame.specs.AnswersLaws.{body_refused}
use Rattle.frame_writer.specs.AnswersLaws.{write-exps-length, write-codes-length}
use Rattle.frame_writer.proofs.write.write_under.Goals as goal

pub returns-then-exps-n : goal.returns-then-exps-n
returns-then-exps-n c =
    let n = c.buffer_length-n.ensures ∙ ap buffer_length c.channels.ensures.is in
    let g = c.args in
    record {
      value =
          ⊎_elim
          (λ (p : length g.exps.now ≡ c.buffer_length-n.result → ⊥). write-exps-length g.track.now.settings g.exps.now g.codes.now (length g.out.now) (λ h. p (h ∙ sym n)))
          (λ (p : length g.exps.now ≡ c.buffer_length-n.result × (length g.codes.now ≡ c.buffer_length-n.result → ⊥)).
          write-codes-length g.track.now.settings g.exps.now g.codes.now (length g.out.now) (p.0 ∙ n) (λ h. p.1 (h ∙ sym n)))
          c.then-exps-n.either;
      out_after = body_refused _ _ _ _ refl;
    }
