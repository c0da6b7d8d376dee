-- An accepted `select_exp_strategies_per_end` may rely on `Selectable` (Inner.antt).
use Rattle.std.specs.Prelude.{◌≡◌, refl, Bool, true, false, ◌&&◌, List, [], ◌∷◌, ℕ, zero, suc, ◌+◌, ◌*◌, ◌≤◌, ◌<◌, eqb, leb, length, get_or, take, IfOk, Ok}
use Rattle.std.proofs.Common.{mul-le-mul_left, mul-add, mul-one, arith, leb-true, eqb-true}
use Rattle.bits.specs.Answer.{must}
use Rattle.bits.specs.declared.refusal.Refusal.TheVariants as refusal
use Rattle.bits.specs.Tests.{both}
use Rattle.elements.specs.Strategy.{code_of}
use Rattle.elements.specs.StrategyLaws.{code_of-most}
use Rattle.shaping.specs.Inner.{Selectable}
use Rattle.shaping.specs.Strategies.{picked, pick_answer, ends_held, select_check}

held_at : (ends : List ℕ) → ends_held ends ≡ true → (i : ℕ) → get_or ends i 0 ≤ 256
unfolding ends_held
held_at [] e i = omega arith
held_at (x ∷ r) e zero = leb-true x 256 (both (leb x 256) (ends_held r) e).0
held_at (x ∷ r) e (suc i) = held_at r (both (leb x 256) (ends_held r) e).1 i

pub few-ends : (n : ℕ) (b : Bool) → (leb 1 n && (leb n 6 && b)) ≡ true → n ≤ 6
few-ends n b e = leb-true n 6 (both (leb n 6) b (both (leb 1 n) (leb n 6 && b) e).1).0

-- a call that is not refused has both
both_hold : (a b : Bool) → must {A = Unit {0}} a refusal.OutOfRange (must b refusal.WrongLength (Ok tt)) ≡ Ok tt → (a ≡ true) × (b ≡ true)
both_hold true true e = (refl, refl)
both_hold true false e = absurd (cc)
both_hold false b e = absurd (cc)

pub selectable : (exps ends : List ℕ) → select_check exps ends ≡ Ok tt → Selectable exps ends
selectable exps ends e =
    let r = both_hold (leb 1 (length ends) && (leb (length ends) 6 && ends_held ends)) (eqb (length exps) (6 * length ends * 256)) e in
    let a = (both (leb 1 (length ends)) (leb (length ends) 6 && ends_held ends) r.0).1 in
    record {
      few = few-ends (length ends) (ends_held ends) r.0;
      held = held_at ends (both (leb (length ends) 6) (ends_held ends) a).1;
      whole = eqb-true (length exps) (6 * length ends * 256) r.1;
    }

-- a strategy's number is at most 3
pub picked-most : (exp : List ℕ) (end : ℕ) → IfOk (pick_answer exp end) (λ s. code_of s ≤ 3)
unfolding pick_answer
picked-most exp end = by_tests (leb end 256) (leb (length exp) 256 && leb end (length exp))
  where
    by_tests : (a b : Bool) → IfOk (must a refusal.OutOfRange (must b refusal.WrongLength (Ok (picked (take end exp))))) (λ s. code_of s ≤ 3)
    by_tests true true = code_of-most (picked (take end exp))
    by_tests true false = tt
    by_tests false b = tt

-- a channel's part of a block ends within the buffer
pub part-inside : (channels block channel : ℕ) → block < 6 → channel < channels → channels * block + channel + 1 ≤ channels * 6
part-inside channels block channel b c = omega (arith, mul-le-mul_left channels b, mul-add channels block 1, mul-one channels)
