-- Laws of the counts of a body: sums of counts.
use Rattle.std.specs.Prelude.{ℕ, zero, suc, ◌+◌, ◌≡◌, refl, Bool, List, [], ◌∷◌, ◌++◌, length}
use Rattle.std.proofs.Common.{arith, length-append}
use Rattle.bits.specs.Parts.{joined, tab}
use Rattle.frame.specs.Body.{total}

pub total-append : (xs ys : List ℕ) → total (xs ++ ys) ≡ total xs + total ys
unfolding total
total-append [] ys = omega arith
total-append (x ∷ xs) ys = rw (total-append xs ys) (omega arith)

-- the length of blocks of two kinds of bits each is the sum of both lists of counts
pub total-joined : (x y : ℕ → List Bool) (k : ℕ)
    → length (joined k (λ b. x b ++ y b)) ≡ total (tab k (λ b. length (x b))) + total (tab k (λ b. length (y b)))
unfolding joined tab total
total-joined x y zero = refl
total-joined x y (suc k) = rw (length-append, length-append, total-joined x y k, total-append, total-append) (omega arith)
