-- A set for each strategy.
use Rattle.std.proofs.Common.{◌≡◌, arith}
use borrow.Author.Tests.{eq-eqb, ne_eqb}
use Rattle.sheet.proofs.record.set_of.Goals as goal

pub returns-in-0 : goal.returns-in-0
returns-in-0 c = simp (eq-eqb _ _ c.in-0.is)

pub returns-in-1 : goal.returns-in-1
returns-in-1 c = rw c.in-1.is

pub returns-in-2 : goal.returns-in-2
returns-in-2 c = rw c.in-2.is

pub returns-in_default : goal.returns-in_default
returns-in_default c =
    let s = c.args.strategy in
    let a : s ≡ 0 → ⊥ = λ e. omega arith in
    let b : s ≡ 1 → ⊥ = λ e. omega arith in
    let d : s ≡ 2 → ⊥ = λ e. omega arith in
    simp (ne_eqb _ _ a, ne_eqb _ _ b, ne_eqb _ _ d)
