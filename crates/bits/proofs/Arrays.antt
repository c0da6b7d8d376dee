-- A closure that leaves what it captures is asked once for each index of the array that it makes.
use mathlib.Core.Path.{◌≡◌, sym, subst}
use mathlib.Core.List.{List, [], ◌∷◌}
use Prim.Native.Nat.{ℕ, ◌<◌}
use native.Mathlib.Omega.{arith}
use Rattle.std.specs.Iterator.{CallableAtEachTurn}
use Rattle.std.specs.List.{FoldsTo}
use Rattle.std.specs.Array.{index_steps}

unmoved : {P : Type 0} (R : P → ℕ → P → Type 0) (p : P) → ((x : ℕ) (q : P) → R p x q → q ≡ p) → (xs : List ℕ) (q : P) → FoldsTo R p xs q → q ≡ p
unmoved R p s [] q c = sym c
unmoved R p s (x ∷ xs) q c = unmoved R p s xs q (subst (λ k. FoldsTo R k xs q) (s x c.0 c.1) c.2)

pub asked-each : {P : Type 0} {R : P → ℕ → P → Type 0} {Q : P → ℕ → Type 0} {n : ℕ} {p : P}
    → ((x : ℕ) (q : P) → R p x q → q ≡ p) → ((x : ℕ) → x < n → Q p x) → CallableAtEachTurn (index_steps n) R Q 0 p
asked-each {P} {R} {Q} {n} {p} stays h = record {
  at = λ xs t q x u y c e. subst (λ k. Q k x) (sym (unmoved R p stays xs q c)) (h x (omega (arith, e.0, e.1)));
}
