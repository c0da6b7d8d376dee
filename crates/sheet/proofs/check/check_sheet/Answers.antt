-- The answer is that of the first test that fails, in the order of the refusals.
use borrow.Author.Tests.{eq-eqb, ne_eqb}
use Rattle.bits.specs.Tests.{held_false, held_true}
use mathlib.Core.Path.{sym, ◌∙◌}
use Rattle.sheet.proofs.check.check_sheet.Goals as goal

pub returns-then-not-length_matches : goal.returns-then-not-length_matches
returns-then-not-length_matches c = rw (held_false c.length_matches.ensures c.if-not-length_matches.true)

pub returns-then-byte_at-ne1 : goal.returns-then-byte_at-ne1
returns-then-byte_at-ne1 c = rw (held_true c.length_matches.ensures c.if-not-length_matches.false, ne_eqb _ _ (λ e. c.if-byte_at-ne1.true (c.byte_at.ensures ∙ e)))

pub returns-then-not-records_whole : goal.returns-then-not-records_whole
returns-then-not-records_whole c =
    let l = held_true c.length_matches.ensures c.if-not-length_matches.false in
    let v = eq-eqb _ _ (sym c.byte_at.ensures ∙ c.if-byte_at-ne1.false) in
    rw (l, v, held_false c.records_whole.ensures c.if-not-records_whole.true)

pub returns-then-not-in_range : goal.returns-then-not-in_range
returns-then-not-in_range c =
    let l = held_true c.length_matches.ensures c.if-not-length_matches.false in
    let v = eq-eqb _ _ (sym c.byte_at.ensures ∙ c.if-byte_at-ne1.false) in
    let w = held_true c.records_whole.ensures c.if-not-records_whole.false in
    rw (l, v, w, held_false c.in_range.ensures c.if-not-in_range.true)

pub returns-then-not-in_order : goal.returns-then-not-in_order
returns-then-not-in_order c =
    let l = held_true c.length_matches.ensures c.if-not-length_matches.false in
    let v = eq-eqb _ _ (sym c.byte_at.ensures ∙ c.if-byte_at-ne1.false) in
    let w = held_true c.records_whole.ensures c.if-not-records_whole.false in
    let n = held_true c.in_range.ensures c.if-not-in_range.false in
    rw (l, v, w, n, held_false c.in_order.ensures c.if-not-in_order.true)

pub returns : goal.returns
returns c =
    let l = held_true c.length_matches.ensures c.if-not-length_matches.false in
    let v = eq-eqb _ _ (sym c.byte_at.ensures ∙ c.if-byte_at-ne1.false) in
    let w = held_true c.records_whole.ensures c.if-not-records_whole.false in
    let n = held_true c.in_range.ensures c.if-not-in_range.false in
    rw (l, v, w, n, held_true c.in_order.ensures c.if-not-in_order.false)
