-- Each answer of the sheet's check is given only for its cause (Cause.antt), and exactly there. And the check beside a number of the call.
use Rattle.std.specs.Prelude.{ℕ, ◌≡◌, refl, Result, Ok, Err, List, Bool, true, false, ◌↔◌}
use Rattle.std.proofs.Common.{subst}
use Rattle.bits.specs.Answer.{must}
use Rattle.bits.specs.declared.refusal.Refusal.{Refusal}
use Rattle.bits.specs.declared.refusal.Refusal.TheVariants as refusal
use Rattle.sheet.specs.Grammar.{structured}
use Rattle.sheet.specs.Ranges.{in_range}
use Rattle.sheet.specs.Order.{in_order}
use Rattle.sheet.specs.Sheet.{check_of, check_beside}
use Rattle.sheet.specs.Cause.{Cause, structure, range, order, none}

-- the answer of every sheet has its cause
pub check-cause : (s : List ℕ) → Cause s (check_of s)
check-cause s = by_tests (structured s) (in_range s) (in_order s) refl refl refl
  where
    by_tests : (a b c : Bool) → structured s ≡ a → in_range s ≡ b → in_order s ≡ c
        → Cause s (must a refusal.Structure (must b refusal.OutOfRange (must c refusal.OutOfOrder (Ok tt))))
    by_tests false b c a-is b-is c-is = structure a-is
    by_tests true false c a-is b-is c-is = range a-is b-is
    by_tests true true false a-is b-is c-is = order a-is b-is c-is
    by_tests true true true a-is b-is c-is = none a-is b-is c-is

pub cause-of : (s : List ℕ) (m : Result Unit Refusal) → check_of s ≡ m → Cause s m
cause-of s m e = subst (Cause s) e (check-cause s)

-- what a cause says, by its answer
structure-cause : {s : List ℕ} {m : Result Unit Refusal} → Cause s m → m ≡ Err refusal.Structure → structured s ≡ false
structure-cause (structure a) e = a
structure-cause (range a b) e = cc
structure-cause (order a b c) e = cc
structure-cause (none a b c) e = cc

range-cause : {s : List ℕ} {m : Result Unit Refusal} → Cause s m → m ≡ Err refusal.OutOfRange → (structured s ≡ true) × (in_range s ≡ false)
range-cause (structure a) e = cc
range-cause (range a b) e = (a, b)
range-cause (order a b c) e = cc
range-cause (none a b c) e = cc

order-cause : {s : List ℕ} {m : Result Unit Refusal} → Cause s m → m ≡ Err refusal.OutOfOrder → (structured s ≡ true) × (in_range s ≡ true) × (in_order s ≡ false)
order-cause (structure a) e = cc
order-cause (range a b) e = cc
order-cause (order a b c) e = (a, b, c)
order-cause (none a b c) e = cc

none-cause : {s : List ℕ} {m : Result Unit Refusal} → Cause s m → m ≡ Ok tt → (structured s ≡ true) × (in_range s ≡ true) × (in_order s ≡ true)
none-cause (structure a) e = cc
none-cause (range a b) e = cc
none-cause (order a b c) e = cc
none-cause (none a b c) e = (a, b, c)

-- 1, 2, 11 and accepted exactly where their causes are
module _ (s : List ℕ) where
  pub structure-exactly : (check_of s ≡ (Err refusal.Structure)) ↔ (structured s ≡ false)
  structure-exactly = (structure-cause (check-cause s), λ a. rw a)

  pub range-exactly : (check_of s ≡ (Err refusal.OutOfRange)) ↔ ((structured s ≡ true) × (in_range s ≡ false))
  range-exactly = (range-cause (check-cause s), λ a. rw (a.0, a.1))

  pub order-exactly : (check_of s ≡ (Err refusal.OutOfOrder)) ↔ ((structured s ≡ true) × (in_range s ≡ true) × (in_order s ≡ false))
  order-exactly = (order-cause (check-cause s), λ a. rw (a.0, a.1, a.2))

  pub accepted-exactly : (check_of s ≡ (Ok tt)) ↔ ((structured s ≡ true) × (in_range s ≡ true) × (in_order s ≡ true))
  accepted-exactly = (none-cause (check-cause s), λ a. rw (a.0, a.1, a.2))

-- ---- beside numbers of the call: those in range change nothing, others are a 2 where the structure is right

module _ (s : List ℕ) where
  pub beside-structure : (inside : Bool) → check_of s ≡ (Err refusal.Structure) → check_of s ≡ check_beside inside s
  beside-structure inside e = rw ((structure-exactly s).0 e)

  pub beside-out-of-range : (check_of s ≡ (Err refusal.Structure) → ⊥) → (Err refusal.OutOfRange) ≡ check_beside false s
  beside-out-of-range h = by-test (structured s) (λ a. h ((structure-exactly s).1 a))
    where
      by-test : (a : Bool) → (a ≡ false → ⊥) → (Err refusal.OutOfRange) ≡ must {A = Unit {0}} a refusal.Structure (Err refusal.OutOfRange)
      by-test true h = refl
      by-test false h = absurd (h refl)

  -- accepted: the numbers of the call are in range, and so is the sheet
  pub beside-accepted : (inside : Bool) → check_beside inside s ≡ (Ok tt) → (inside ≡ true) × (check_of s ≡ (Ok tt))
  beside-accepted true e = (refl, e)
  beside-accepted false e = absurd (by-test (structured s) e)
    where
      by-test : (a : Bool) → must {A = Unit {0}} a refusal.Structure (Err refusal.OutOfRange) ≡ (Ok tt) → ⊥
      by-test true q = cc
      by-test false q = cc
