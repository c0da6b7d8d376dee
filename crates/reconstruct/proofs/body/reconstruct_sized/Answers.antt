-- The exponents are tested, and then their allocation is at hand.
use Rattle.bits.specs.Tests.{held_false}
use Rattle.reconstruct.proofs.AnswersLaws.{copy-bad-exps}
use Rattle.reconstruct.proofs.body.reconstruct_sized.Goals as goal

pub returns-then-not-exps_legal : goal.returns-then-not-exps_legal
returns-then-not-exps_legal c =
    let all = copy-bad-exps _ c.args.exps.now c.args.codes.now c.args.has_level.now c.args.levels.now c.requires (held_false c.exps_legal.ensures c.if-not-exps_legal.true) in
    record { value = all.0; has_level_after = all.1.0; levels_after = all.1.1 }
