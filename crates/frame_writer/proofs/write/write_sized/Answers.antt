-- The exponents are tested, and then their allocation is at hand.
use mathlib.Core.Path.{refl}
use Rattle.bits.specs.Tests.{held_false}
use Rattle.frame.specs.AnswersLaws.{body_refused}
use Rattle.frame_writer.specs.AnswersLaws.{write-bad-exps}
use Rattle.frame_writer.proofs.write.write_sized.Goals as goal

pub returns-then-not-exps_legal : goal.returns-then-not-exps_legal
returns-then-not-exps_legal c =
    record {
      value = write-bad-exps _ _ _ _ c.requires (held_false c.exps_legal.ensures c.if-not-exps_legal.true);
      out_after = body_refused _ _ _ _ refl;
    }
