-- Numbers out of their range are a 2 where the structure is right; else the sheet's own answer stands.
use Prim.Native.Nat.{ℕ}
use mathlib.Core.Path.{◌≡◌, refl, sym, ◌∙◌}
use mathlib.Core.List.{List}
use mathlib.Core.Bool.{Bool, true, false, ◌||◌, true≢false}
use Rattle.std.specs.Prelude.{Result, Ok, Err}
use Rattle.std.specs.Result.{result_eq}
use Rattle.std.specs.contracts.prelude.UnitPartialEq.TheImpl as unit
use Rattle.bits.specs.contracts.refusal.RefusalPartialEq.TheImpl as refusals
use Rattle.bits.specs.declared.refusal.Refusal.{Refusal}
use Rattle.bits.specs.declared.refusal.Refusal.TheVariants as refusal
use Rattle.sheet.specs.Cause.{Cause, structure, range, order, none}
use Rattle.sheet.specs.Sheet.{check_of, check_beside}
use Rattle.sheet.proofs.CauseLaws.{check-cause, beside-structure, beside-out-of-range}
use Rattle.sheet.proofs.check.check_beside.Goals as goal

-- what the code asks of the sheet's answer
abbrev is_structure : Result Unit Refusal → Bool
is_structure m = result_eq (unit.eq-value).it (refusals.eq-value).it m (Err refusal.Structure)

-- a test that tells the answers of the check apart by whether it is a 1
module _ (s : List ℕ) (test : Result Unit Refusal → Bool)
    (at_structure : test (Err refusal.Structure) ≡ true) (at_range : test (Err refusal.OutOfRange) ≡ false)
    (at_order : test (Err refusal.OutOfOrder) ≡ false) (at_none : test (Ok tt) ≡ false) where
  answers : (m : Result Unit Refusal) → Cause s m → (test m ≡ true → m ≡ Err refusal.Structure) × (test m ≡ false → m ≡ Err refusal.Structure → ⊥)
  answers m (structure a) = (λ h. refl, λ h e. true≢false (sym at_structure ∙ h))
  answers m (range a b) = (λ h. absurd (true≢false (sym h ∙ at_range)), λ h e. cc)
  answers m (order a b c) = (λ h. absurd (true≢false (sym h ∙ at_order)), λ h e. cc)
  answers m (none a b c) = (λ h. absurd (true≢false (sym h ∙ at_none)), λ h e. cc)

  kept : (inside : Bool) → (inside || test (check_of s)) ≡ true → check_of s ≡ check_beside inside s
  kept true h = refl
  kept false h = beside-structure s false ((answers (check_of s) (check-cause s)).0 h)

  out : (inside : Bool) → (inside || test (check_of s)) ≡ false → Err refusal.OutOfRange ≡ check_beside inside s
  out true h = absurd (true≢false h)
  out false h = beside-out-of-range s ((answers (check_of s) (check-cause s)).1 h)

pub returns-then-numbers_in_range-eq : goal.returns-then-numbers_in_range-eq
returns-then-numbers_in_range-eq c =
    c.check_sheet-checked.ensures
    ∙ kept c.args.sheet.now is_structure refl refl refl refl c.args.numbers_in_range
    (rw (c.eq.ensures, c.check_sheet-checked.ensures) at c.if-numbers_in_range-eq.true)

pub returns : goal.returns
returns c =
    out c.args.sheet.now is_structure refl refl refl refl c.args.numbers_in_range
    (rw (c.eq.ensures, c.check_sheet-checked.ensures) at c.if-numbers_in_range-eq.false)
