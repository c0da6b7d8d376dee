-- `nearest_of` gives the nearest level, and the lowest index on a tie (document 01, "Mantissas"): no level is at a smaller distance,
-- and every level before it is at a greater one.
use Rattle.std.specs.Prelude.{◌≡◌, refl, Bool, true, false, not, ◌&&◌, cond, List, [], ◌∷◌, ℕ, zero, suc, ◌+◌, ◌-◌, ◌*◌, ◌≤◌, ◌<◌, T, ltb, Float, length, get_or}
use Rattle.std.proofs.Common.{sym, ◌∙◌, true≢false, le_of_suc-le-suc, not-suc-le-zero, arith}
use Rattle.std.specs.Bool.{beq}
use Rattle.std.specs.Float.{nan, inf, fin, binary32}
use Rattle.std.specs.Float.Ieee.{up, down, round, lt, sub, neg, is_nan}
use Rattle.std.specs.Float.Ieee.Scale.{finite}
use Rattle.bits.specs.Tests.{by_bool}
use Rattle.quantiser.specs.OrderLaws.{lt-past, lt-not-back, lt-through, lt-self, lt-nothing}
use Rattle.quantiser.specs.Scale.{zero32}
use Rattle.quantiser.specs.ScaleLaws.{round-no-nan}
use Rattle.quantiser.specs.Symmetric.{distance, nearest_from, nearest_of}

-- ---- the nearest of the levels

-- the distance of the level k
abbrev pub distance_at : Float → List Float → ℕ → Float
distance_at m table k = distance m (get_or table k nan)

-- the level j is the nearest of the table, and the first that is so near
pub record Nearest (m : Float) (table : List Float) (j : ℕ) : Type 0 where
  pub inside : j < length table
  pub none-nearer : (k : ℕ) → k < length table → lt (distance_at m table k) (distance_at m table j) ≡ false
  pub first : (k : ℕ) → k < j → lt (distance_at m table j) (distance_at m table k) ≡ true

-- what `nearest_from` came to: the best so far at the distance d, or a level that is nearer than that
data Came (m : Float) (vs : List Float) (i best : ℕ) (d : Float) (r : ℕ) : Type 0 where
  kept : r ≡ best → ((k : ℕ) → k < length vs → lt (distance_at m vs k) d ≡ false) → Came m vs i best d r
  found : (j : ℕ) → r ≡ i + j → lt (distance_at m vs j) d ≡ true → Nearest m vs j → Came m vs i best d r

by_index : (P : ℕ → Type 0) (n : ℕ) → P 0 → ((k : ℕ) → k < n → P (suc k)) → (k : ℕ) → k < suc n → P k
by_index P n z s zero h = z
by_index P n z s (suc k) h = s k (le_of_suc-le-suc h)

step : (m v : Float) (vs : List Float) (i best : ℕ) (d : Float) (r : ℕ) (nearer : Bool) → T (not (is_nan (distance m v))) → lt (distance m v) d ≡ nearer
    → Came m vs (suc i) (cond nearer i best) (cond nearer (distance m v) d) r → Came m (v ∷ vs) i best d r
step m v vs i best d r true n t (kept q h) =
    found 0 (omega arith) t (record {
      inside = omega arith;
      none-nearer = by_index (λ (k : ℕ). lt (distance_at m (v ∷ vs) k) (distance m v) ≡ false) (length vs) (lt-self (distance m v)) h;
      first = λ k l. absurd (not-suc-le-zero l);
    })
step m v vs i best d r true n t (found j q l h) =
    found (suc j) (omega arith) (lt-through _ _ _ l t) (record {
      inside = omega (arith, h.inside);
      none-nearer = by_index (λ (k : ℕ). lt (distance_at m (v ∷ vs) k) (distance_at m vs j) ≡ false) (length vs) (lt-not-back _ _ l) h.none-nearer;
      first = by_index (λ (k : ℕ). lt (distance_at m vs j) (distance_at m (v ∷ vs) k) ≡ true) j l h.first;
    })
step m v vs i best d r false n t (kept q h) = kept q (by_index (λ (k : ℕ). lt (distance_at m (v ∷ vs) k) d ≡ false) (length vs) t h)
step m v vs i best d r false n t (found j q l h) =
    let near : lt (distance m v) (distance_at m vs j) ≡ false =
    by_bool (lt (distance m v) (distance_at m vs j)) (λ z. absurd (true≢false (sym (lt-through _ _ _ z l) ∙ t))) (λ z. z) in
    found (suc j) (omega arith) l (record {
      inside = omega (arith, h.inside);
      none-nearer = by_index (λ (k : ℕ). lt (distance_at m (v ∷ vs) k) (distance_at m vs j) ≡ false) (length vs) near h.none-nearer;
      first = by_index (λ (k : ℕ). lt (distance_at m vs j) (distance_at m (v ∷ vs) k) ≡ true) j (lt-past _ _ _ l t n) h.first;
    })

from_is : (m : Float) (vs : List Float) (i best : ℕ) (d : Float) → ((k : ℕ) → k < length vs → T (not (is_nan (distance_at m vs k))))
    → Came m vs i best d (nearest_from m vs i best d)
unfolding nearest_from
from_is m [] i best d n = kept refl (λ k h. absurd (not-suc-le-zero h))
from_is m (v ∷ vs) i best d n =
    let nearer = lt (distance m v) d in
    step m v vs i best d _ nearer (n 0 (omega arith)) refl (from_is m vs (suc i) (cond nearer i best) (cond nearer (distance m v) d) (λ k h. n (suc k) (omega arith)))

-- ---- a distance between finite values is a number

cond-number : (b : Bool) (x y : Float) → T (not (is_nan x)) → T (not (is_nan y)) → T (not (is_nan (cond b x y)))
cond-number true x y h k = h
cond-number false x y h k = k

sub_number : (x y : Float) → T (finite x) → T (finite y) → T (not (is_nan (sub binary32 x y)))
unfolding sub
sub_number (fin s m e) (fin t o g) p q =
    let a = m * up e * down g in
    let b = o * up g * down e in
    let c = down e * down g in
    cond-number (beq s (not t)) (round binary32 s (a + b) c) _ (round-no-nan s (a + b) c)
    (cond-number (ltb a b) (round binary32 (not t) (b - a) c) (round binary32 (s && ltb b a) (a - b) c)
    (round-no-nan (not t) (b - a) c) (round-no-nan (s && ltb b a) (a - b) c))
sub_number (fin s m e) (inf t) p q = absurd q
sub_number (fin s m e) nan p q = absurd q
sub_number (inf s) y p q = absurd p
sub_number nan y p q = absurd p

neg-number : (x : Float) → T (not (is_nan x)) → T (not (is_nan (neg x)))
unfolding neg is_nan
neg-number nan h = h
neg-number (inf s) h = tt
neg-number (fin s m e) h = tt

distance-number : (x y : Float) → T (finite x) → T (finite y) → T (not (is_nan (distance x y)))
unfolding distance
distance-number x y p q = let n = sub_number x y p q in cond-number (lt (sub binary32 x y) zero32) _ _ (neg-number (sub binary32 x y) n) n

-- ---- the law

pub nearest-is : (m : Float) (table : List Float) → T (finite m) → ((k : ℕ) → k < length table → T (finite (get_or table k nan))) → 1 ≤ length table
    → Nearest m table (nearest_of m table)
unfolding nearest_of
nearest-is m table f g h = by_end (from_is m table 0 0 (inf false) (λ k l. distance-number m (get_or table k nan) f (g k l)))
  where
    by_end : {r : ℕ} → Came m table 0 0 (inf false) r → Nearest m table r
    by_end (kept q n) =
        rw q (record { inside = h; none-nearer = λ k l. lt-nothing _ _ (n k l); first = λ k l. absurd (not-suc-le-zero l) })
    by_end {r} (found j q l n) = let e : r ≡ j = omega arith in rw e n
