-- D15 shaping leaves the greatest, for any bytes, any length and any limit of the first bin up to 24.
use Rattle.std.specs.Prelude.{List, [], ◌∷◌}
use Prim.Native.Nat.{ℕ, ◌+◌, ◌≤◌}
use Rattle.std.proofs.Common.{arith}
use Rattle.shaping.specs.Greatest.{Below, Greatest, Follows, ShapedFrom}
use Rattle.shaping.specs.GreatestLaws.{below-trans}
use Rattle.shaping.specs.D15.{under, backward, held, forward, first, limited}

-- ---- the backward pass

backward-below : (xs : List ℕ) → Below (backward xs) xs
unfolding backward
backward-below [] = tt
backward-below (x ∷ []) = (omega arith, tt)
backward-below (x ∷ y ∷ r) = (omega arith, backward-below (y ∷ r))

-- each at most 2 above the next, after p
abbrev Steep : ℕ → List ℕ → Type 0
Steep p [] = Unit {0}
Steep p (x ∷ r) = (p ≤ x + 2) × Steep x r

backward-steep : (p : ℕ) (xs : List ℕ) → p ≤ under p (backward xs) → Steep p (backward xs)
unfolding backward
backward-steep p [] k = tt
backward-steep p (x ∷ []) k = (omega arith, tt)
backward-steep p (x ∷ y ∷ r) k = (omega arith, backward-steep (under x (backward (y ∷ r))) (y ∷ r) (omega arith))

backward-above : (p : ℕ) (ys xs : List ℕ) → Follows 0 0 p ys → Below ys xs → Below ys (backward xs)
unfolding backward
backward-above p [] [] s b = tt
backward-above p [] (x ∷ xs) s b = absurd b
backward-above p (y ∷ ys) [] s b = absurd b
backward-above p (y ∷ []) (x ∷ []) s b = (omega arith, tt)
backward-above p (y ∷ []) (x ∷ x₂ ∷ xs) s b = absurd b.1
backward-above p (y ∷ y₂ ∷ ys) (x ∷ []) s b = absurd b.1
backward-above p (y ∷ y₂ ∷ ys) (x ∷ x₂ ∷ xs) s b =
    let i : Below (y₂ ∷ ys) (backward (x₂ ∷ xs)) = backward-above y (y₂ ∷ ys) (x₂ ∷ xs) s.3 b.1 in
    (omega arith, i)

-- ---- the forward pass

forward-follows : (p : ℕ) (xs : List ℕ) → p ≤ 24 → Follows 0 0 p (forward p xs)
unfolding forward
forward-follows p [] k = tt
forward-follows p (x ∷ xs) k = (omega arith, omega arith, omega arith, forward-follows (held p x) xs (omega arith))

-- it stays above all that follows the same rule and is not above what it passes over
forward-above : (q p : ℕ) (ys xs : List ℕ) → q ≤ p → Follows 0 0 q ys → Below ys xs → Below ys (forward p xs)
unfolding forward
forward-above q p [] [] k s b = tt
forward-above q p [] (x ∷ xs) k s b = absurd b
forward-above q p (y ∷ ys) [] k s b = b
forward-above q p (y ∷ ys) (x ∷ xs) k s b = (omega arith, forward-above y (held p x) ys xs (omega arith) s.3 b.1)

-- after the backward pass it raises nothing
forward-below : (p q : ℕ) (xs : List ℕ) → p ≤ q → Steep q xs → Below (forward p xs) xs
unfolding forward
forward-below p q [] k s = tt
forward-below p q (x ∷ xs) k s = (omega arith, forward-below (held p x) x xs (omega arith) s.1)

-- ---- the first bin and both passes

first_below : (limit x : ℕ) (b : List ℕ) → (first limit x b ≤ x) × (first limit x b ≤ limit)
first_below limit x [] = (omega arith, omega arith)
first_below limit x (y ∷ b) = (omega arith, omega arith)

first_under : (limit x : ℕ) (b : List ℕ) → limit ≤ 24 → first limit x b ≤ under (first limit x b) b
first_under limit x [] k = omega arith
first_under limit x (y ∷ b) k = omega arith

first_above : (limit y x : ℕ) (ys b : List ℕ) → y ≤ limit → y ≤ x → Follows 0 0 y ys → Below ys b → y ≤ first limit x b
first_above limit y x [] [] l q s k = omega arith
first_above limit y x [] (w ∷ b) l q s k = absurd k
first_above limit y x (u ∷ us) [] l q s k = absurd k
first_above limit y x (u ∷ us) (w ∷ b) l q s k = omega arith

pub limited-greatest : (limit : ℕ) (xs : List ℕ) → limit ≤ 24 → Greatest limit 0 0 xs (limited limit xs)
limited-greatest limit [] l = unfold limited in record { shaped = tt; below = tt; most = λ ys s b. b }
limited-greatest limit (x ∷ r) l =
    unfold limited in (record {
      shaped = ((first_below limit x (backward r)).1, forward-follows p (backward r) (omega (arith, l, first_below limit x (backward r))));
      below = ((first_below limit x (backward r)).0, below-trans (forward p (backward r)) (backward r) r (forward-below p p (backward r) (omega arith) (backward-steep p r (first_under limit x (backward r) l))) (backward-below r));
      most = λ ys. most-of ys;
    })
  where
    p : ℕ
    p = first limit x (backward r)

    most-of : (ys : List ℕ) → ShapedFrom limit 0 0 ys → Below ys (x ∷ r) → Below ys (p ∷ forward p (backward r))
    most-of [] s k = absurd k
    most-of (y ∷ ys) s k =
        let b : Below ys (backward r) = backward-above y ys r s.1 k.1 in
        let f : y ≤ p = first_above limit y x ys (backward r) s.0 k.0 s.1 b in
        (f, forward-above y p ys (backward r) f s.1 b)
