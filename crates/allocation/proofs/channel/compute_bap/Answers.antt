-- Each way out is a law of AnswerLaws.antt; a refused call leaves the slice, an accepted one fills it.
use Rattle.std.proofs.Common.{◌≡◌, sym, ◌∙◌, Result, Ok, Err}
use Rattle.bits.specs.declared.refusal.Refusal.{Refusal}
use Rattle.bits.specs.Tests.{held_false, held_true}
use Rattle.allocation.specs.AnswerLaws.{range-held, lengths-held, exponents-held, answer-range, answer-length, answer-exponent, answer-accepted, accepted-allocates, refused-leaves}
use Rattle.allocation.proofs.channel.compute_bap.Goals as goal

-- a refusal is no acceptance
err-not-ok : {k : Refusal} → ◌≡◌ {A = Result Unit Refusal} (Err k) (Ok tt) → ⊥
err-not-ok e = cc

pub returns-then-not-in_range : goal.returns-then-not-in_range
returns-then-not-in_range c =
    let e = answer-range _ _ _ c.args.exp.now _ (held_false c.in_range.ensures c.if-not-in_range.true) in
    record {
      value = sym e;
      bap_after = sym (refused-leaves _ _ _ _ _ (λ q. err-not-ok (sym e ∙ q)));
    }

pub returns-then-not-right_lengths : goal.returns-then-not-right_lengths
returns-then-not-right_lengths c =
    let a = held_true c.in_range.ensures c.if-not-in_range.false in
    let e = answer-length _ _ _ _ _ a (held_false c.right_lengths.ensures c.if-not-right_lengths.true) in
    record {
      value = sym e;
      bap_after = sym (refused-leaves _ _ _ _ _ (λ q. err-not-ok (sym e ∙ q)));
    }

pub exponents_fit-requires : goal.exponents_fit-requires
exponents_fit-requires c = (lengths-held _ _ _ (held_true c.right_lengths.ensures c.if-not-right_lengths.false)).held

pub returns-then-not-exponents_fit : goal.returns-then-not-exponents_fit
returns-then-not-exponents_fit c =
    let a = held_true c.in_range.ensures c.if-not-in_range.false in
    let b = held_true c.right_lengths.ensures c.if-not-right_lengths.false in
    let e = answer-exponent _ _ _ _ _ a b (held_false c.exponents_fit.ensures c.if-not-exponents_fit.true) in
    record {
      value = sym e;
      bap_after = sym (refused-leaves _ _ _ _ _ (λ q. err-not-ok (sym e ∙ q)));
    }

pub allocate-requires : goal.allocate-requires
allocate-requires c =
    let a = range-held _ _ _ (held_true c.in_range.ensures c.if-not-in_range.false) in
    let b = lengths-held _ _ _ (held_true c.right_lengths.ensures c.if-not-right_lengths.false) in
    let d = exponents-held _ _ (held_true c.exponents_fit.ensures c.if-not-exponents_fit.false) in
    record {
      legal_codes = a.0;
      legal_bins = record { legal = a.1; held = b.held; most = d; room = b.room; short = b.short };
    }

pub returns : goal.returns
returns c =
    let a = held_true c.in_range.ensures c.if-not-in_range.false in
    let b = held_true c.right_lengths.ensures c.if-not-right_lengths.false in
    let e = answer-accepted _ _ _ _ _ a b (held_true c.exponents_fit.ensures c.if-not-exponents_fit.false) in
    record {
      value = sym e;
      bap_after = c.allocate.ensures ∙ sym (accepted-allocates _ _ _ _ _ e);
    }
