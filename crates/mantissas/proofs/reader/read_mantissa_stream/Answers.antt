-- Each way out in the order of the refusals, then what was read: laws of Answers.antt.
use Rattle.std.specs.Prelude.{replicate}
use Rattle.std.proofs.Common.{ℕ, ◌∙◌, ap, arith, rules}
use Rattle.bits.specs.Tests.{held_false, held_true}
use Rattle.mantissas.specs.CodedLaws.{baps-true}
use Rattle.mantissas.proofs.Answers as answers
use Rattle.mantissas.proofs.reader.read_mantissa_stream.Goals as goal

pub returns-then-not-one_length : goal.returns-then-not-one_length
returns-then-not-one_length c =
    let w = answers.read-wrong _ _ _ (held_false c.one_length.ensures c.if-not-one_length.true) in
    record { value = w.0; codes_after = w.1 }

pub returns-then-not-check_baps : goal.returns-then-not-check_baps
returns-then-not-check_baps c =
    let one = held_true c.one_length.ensures c.if-not-one_length.false in
    let w = answers.read-bad _ _ _ one (held_false c.check_baps.ensures c.if-not-check_baps.true) in
    record { value = w.0; codes_after = w.1 }

pub get_mantissas-requires-clause-bap_len : goal.get_mantissas-requires-clause-bap_len
get_mantissas-requires-clause-bap_len c = answers.one-length-says _ _ (held_true c.one_length.ensures c.if-not-one_length.false)

pub get_mantissas-requires-clause-below : goal.get_mantissas-requires-clause-below
get_mantissas-requires-clause-below c = baps-true _ (held_true c.check_baps.ensures c.if-not-check_baps.false)

pub overflow_cast-result : goal.overflow_cast-result
overflow_cast-result c =
    let one = held_true c.one_length.ensures c.if-not-one_length.false in
    omega (arith, (answers.one-length-says _ _ one).1, c.in-Ok.ensures.pos_bound_2)

pub returns-in-Ok : goal.returns-in-Ok
returns-in-Ok c =
    let one = held_true c.one_length.ensures c.if-not-one_length.false in
    let good = held_true c.check_baps.ensures c.if-not-check_baps.false in
    let g = c.in-Ok.ensures.came in
    let w = answers.read_done _ _ _ _ _ one good g.within g.is in
    record { value = w.0; codes_after = w.1 }

pub returns-in-Err : goal.returns-in-Err
returns-in-Err c =
    let one = held_true c.one_length.ensures c.if-not-one_length.false in
    let good = held_true c.check_baps.ensures c.if-not-check_baps.false in
    let w = answers.read-faulty _ _ c.args.codes.now _ one good c.in-Err.ensures.came.is in
    let zeros = c.fill.ensures.after (λ y e. search rules) in
    record { value = w.0; codes_after = zeros ∙ ap (λ (n : ℕ). replicate n 0) c.get_mantissas.auto.codes ∙ w.1 }
