-- D15 bin after bin: what the two loops leave is `limited`.
use mathlib.Core.Path.{◌≡◌, refl, sym, ap, ap₂, ◌∙◌}
use mathlib.Core.List.{List, [], ◌∷◌, ◌++◌, append-nil}
use Prim.Native.Nat.{ℕ, zero, suc, ◌+◌, ◌-◌, ◌≤◌, ◌<◌, min}
use native.Mathlib.Omega.{arith}
use native.Mathlib.Numerals.{sub-one}
use lib.ListN.{length, take, drop, get_or, set}
use lib.Seq.{take-length, drop-length}
use Rattle.shaping.specs.D15.{under, backward, held, forward, first, limited}
use Rattle.shaping.specs.Reach.{next, descended, ascended}

-- ---- the first loop: the bins before i are as they were, those from i on have passed

unfoldable pub descended_from : ℕ → List ℕ → List ℕ
descended_from i xs = take i xs ++ descended (drop i xs)

turn : (xs : List ℕ) (j : ℕ) → j < length xs → (next (descended (drop j xs)) ≡ min (min (get_or (descended_from (suc j) xs) j 0) 24) (next (descended (drop (suc j) xs)) + 2))
    × (set (descended_from (suc j) xs) j (next (descended (drop j xs))) ≡ descended_from j xs)
unfolding descended_from descended
turn [] j h = absurd (omega arith)
turn (x ∷ r) zero h = (refl, refl)
turn (x ∷ r) (suc j) h =
    let t = turn r j (omega arith) in
    (t.0, ap (λ (l : List ℕ). x ∷ l) t.1)

module _ (xs e : List ℕ) (v w : ℕ) where
  pub descent-turn : (i u : ℕ) → 0 < i → i ≤ length xs → v ≡ next (descended (drop i xs)) → e ≡ descended_from i xs → u ≡ min (get_or e (i - 1) 0) 24 → w ≡ min u (v + 2)
      → (w ≡ next (descended (drop (i - 1) xs))) × (set e (i - 1) w ≡ descended_from (i - 1) xs)
  descent-turn zero u p h n q a b = absurd (omega arith)
  descent-turn (suc j) u p h n q a b =
      let t = turn xs j (omega arith) in
      let k : w ≡ next (descended (drop j xs)) = rw (b, a, n, q, sub-one) (sym t.0) in
      rw (sub-one, q, k) (refl, t.1)

pub descent-start : (xs : List ℕ) (i : ℕ) → i ≡ length xs → (24 ≡ next (descended (drop i xs))) × (xs ≡ descended_from i xs)
unfolding descended_from descended
descent-start xs i e = rw (e, drop-length xs, take-length xs, append-nil xs) (refl, refl)

pub descent-done : (xs e : List ℕ) (i : ℕ) → i ≤ 0 → e ≡ descended_from i xs → e ≡ descended xs
unfolding descended_from
descent-done xs e zero h q = q
descent-done xs e (suc i) h q = absurd (omega arith)

-- ---- the second loop

pub ascended-head : (v x w : ℕ) (r : List ℕ) → w ≡ min x (v + 2) → ascended v (x ∷ r) ≡ w ∷ ascended w r
unfolding ascended
ascended-head v x w r e = rw e

-- ---- both are `limited`

-- p is at most 2 above the first of a list
abbrev Under : ℕ → List ℕ → Type 0
Under p [] = Unit {0}
Under p (z ∷ r) = p ≤ z + 2

under-capped : (x : ℕ) (b : List ℕ) → min (under x b) 24 ≡ min (min x 24) (min (next b) 24 + 2)
under-capped x [] = omega arith
under-capped x (y ∷ b) = omega arith

first-capped : (limit x : ℕ) (b : List ℕ) → limit ≤ 24 → first limit x b ≡ min (min (min x 24) (min (next b) 24 + 2)) limit
first-capped limit x [] m = omega arith
first-capped limit x (y ∷ b) m = omega arith

first_under : (limit x : ℕ) (b : List ℕ) → Under (first limit x b) b
first_under limit x [] = tt
first_under limit x (y ∷ b) = omega arith

held_low : (p z : ℕ) → p ≤ z + 2 → held p z ≡ min (min z 24) (p + 2)
held_low p z h = omega arith

held-under : (p x : ℕ) (b : List ℕ) → p ≤ under x b + 2 → Under (held p (under x b)) b
held-under p x [] h = tt
held-under p x (y ∷ b) h = omega arith

-- what stands behind is the same in both but for what is above 24
next-backward : (r : List ℕ) → next (descended r) ≡ min (next (backward r)) 24
unfolding descended backward
next-backward [] = refl
next-backward (x ∷ r) = rw (next-backward r) (sym (under-capped x (backward r)))

forward-ascends : (p : ℕ) (r : List ℕ) → Under p (backward r) → forward p (backward r) ≡ ascended p (descended r)
unfolding forward ascended descended backward
forward-ascends p [] u = refl
forward-ascends p (x ∷ r) u =
    let z = under x (backward r) in
    let e : held p z ≡ min (min (min x 24) (next (descended r) + 2)) (p + 2) =
    held_low p z u ∙ ap (λ (n : ℕ). min n (p + 2)) (under-capped x (backward r) ∙ rw (next-backward r) refl) in
    ap₂ (λ (v : ℕ) (l : List ℕ). v ∷ l) e (forward-ascends (held p z) r (held-under p x (backward r) u) ∙ ap (λ (v : ℕ). ascended v (descended r)) e)

pub descended-limited : (limit : ℕ) (xs : List ℕ) → 2 ≤ limit → limit ≤ 24 → ascended (limit - 2) (descended xs) ≡ limited limit xs
unfolding limited descended ascended
descended-limited limit [] l m = refl
descended-limited limit (x ∷ r) l m =
    let f = first limit x (backward r) in
    let e : f ≡ min (min (min x 24) (next (descended r) + 2)) limit = first-capped limit x (backward r) m ∙ rw (next-backward r) refl in
    let k : limit - 2 + 2 ≡ limit = omega (arith, l) in
    rw k (sym (ap₂ (λ (v : ℕ) (l : List ℕ). v ∷ l) e (forward-ascends f r (first_under limit x (backward r)) ∙ ap (λ (v : ℕ). ascended v (descended r)) e)))
