-- What the number of an answer tells (bits/specs/Answer.antt): 0 is no refusal's, and a fact about it is one about the answer.
use Rattle.std.specs.Prelude.{ℕ, ◌≤◌, ◌≡◌, Result, Err}
use Rattle.std.proofs.Common.{arith}
use Rattle.std.proofs.Math.Path.{subst}
use Rattle.bits.specs.Answer.{number}
use Rattle.bits.specs.Refusal.{number_of}
use Rattle.bits.specs.declared.refusal.Refusal.{Refusal}
use Rattle.bits.specs.declared.refusal.Refusal.TheVariants.{
  Structure,
  OutOfRange,
  NotFinite,
  BadExponent,
  BadCode,
  NoRoom,
  PastInput,
  BadGroup,
  NoCode,
  WrongLength,
  OutOfOrder,
}

pub number_of-least : (k : Refusal) → 1 ≤ number_of k
number_of-least Structure = omega arith
number_of-least OutOfRange = omega arith
number_of-least NotFinite = omega arith
number_of-least BadExponent = omega arith
number_of-least BadCode = omega arith
number_of-least NoRoom = omega arith
number_of-least PastInput = omega arith
number_of-least BadGroup = omega arith
number_of-least NoCode = omega arith
number_of-least WrongLength = omega arith
number_of-least OutOfOrder = omega arith

pub of-number : {A : Type 0} (P : ℕ → Type 0) {k : Refusal} {r : Result A Refusal} → Err k ≡ r → P (number_of k) → P (number r)
of-number {A} P e p = subst (λ (a : Result A Refusal). P (number a)) e p
