-- A pass from the front in place, one store a turn: take i e ++ f (drop i e) stays what is wanted, f being the pass over what is left.
use mathlib.Core.Path.{◌≡◌, refl, sym, ap, ◌∙◌}
use mathlib.Core.List.{List, [], ◌∷◌, ◌++◌}
use Prim.Native.Nat.{ℕ, zero, suc, ◌+◌, ◌-◌, ◌≤◌, ◌<◌, min}
use native.Mathlib.Omega.{arith}
use native.Mathlib.Numerals.{add-one, sub-one}
use lib.ListN.{length, take, drop, get_or, set, drop_of_length-le}
use lib.Seq.{drop-cons}
use Rattle.shaping.specs.Spans.{least}
use Rattle.shaping.specs.Strategies.{merged}

store : (f : List ℕ → List ℕ) (e l : List ℕ) (i v : ℕ) → i < length e → l ≡ v ∷ f (drop (suc i) e)
    → take (suc i) (set e i v) ++ f (drop (suc i) (set e i v)) ≡ take i e ++ l
store f [] l i v h q = absurd (omega arith)
store f (x ∷ r) l zero v h q = sym q
store f (x ∷ r) l (suc i) v h q = ap (λ (t : List ℕ). x ∷ t) (store f r l i v (omega arith) q)

-- a turn: F is the pass from i on, f the pass after the entry v that is stored
pub sweep-turn : (F f : List ℕ → List ℕ) (e g : List ℕ) (i v : ℕ) → take i e ++ F (drop i e) ≡ g → i < length e
    → F (get_or e i 0 ∷ drop (suc i) e) ≡ v ∷ f (drop (suc i) e)
    → take (i + 1) (set e i v) ++ f (drop (i + 1) (set e i v)) ≡ g
sweep-turn F f e g i v q h w = rw add-one (store f e (F (drop i e)) i v h (rw (drop-cons e i 0 h) w) ∙ q)

pub sweep-done : (f : List ℕ → List ℕ) (e g : List ℕ) (i : ℕ) → take i e ++ f (drop i e) ≡ g → f [] ≡ [] → length e ≤ i → e ≡ g
sweep-done f e g i q z h = sym (all e i h) ∙ q
  where
    all : (e : List ℕ) (i : ℕ) → length e ≤ i → take i e ++ f (drop i e) ≡ e
    all [] zero h = z
    all [] (suc i) h = z
    all (x ∷ e) zero h = absurd (omega arith)
    all (x ∷ e) (suc i) h = ap (λ (t : List ℕ). x ∷ t) (all e i (omega arith))

-- ---- each span becomes its least: a span starts, or goes on

pub merged-head : (h j v x v' j' : ℕ) (r : List ℕ) → j ≡ 0 → j' ≡ h → v' ≡ least h x r → merged h j v (x ∷ r) ≡ v' ∷ merged h j' v' r
unfolding merged
merged-head h j v x v' j' r p q w = rw (p, q, w)

pub merged-same : (h j v x v' j' : ℕ) (r : List ℕ) → (j ≡ 0 → ⊥) → j' ≡ j - 1 → v' ≡ v → merged h j v (x ∷ r) ≡ v' ∷ merged h j' v' r
unfolding merged
merged-same h zero v x v' j' r p q w = absurd (p refl)
merged-same h (suc j) v x v' j' r p q w = rw (q, w, sub-one)

-- ---- the least of a span

pub least_more : (e : List ℕ) (g j m k v j' k' : ℕ) → least j m (drop k e) ≡ g → v ≡ min m (get_or e k 0) → j ≡ suc j' → k' ≡ suc k → k < length e
    → least j' v (drop k' e) ≡ g
unfolding least
least_more e g j m k v j' k' q w p n h = rw (w, n) (rw (p, drop-cons e k 0 h) at q)

-- none of them is left, or the list has ended
pub least-over : (e : List ℕ) (g j m k : ℕ) → least j m (drop k e) ≡ g → (0 < j → length e ≤ k) → m ≡ g
unfolding least
least-over e g zero m k q h = q
least-over e g (suc j) m k q h = rw (drop_of_length-le e (h (omega arith))) at q
