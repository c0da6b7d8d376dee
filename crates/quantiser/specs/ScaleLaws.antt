-- Laws of scaling: what is held stays within -1..1; scaling by 2^exponent is exact, or it saturates.
use Rattle.std.specs.Prelude.{◌≡◌, refl, Bool, not, cond, ℤ, pos, T, ltb, Float}
use Rattle.std.proofs.Common.{sym, ap, ◌∙◌, le_trans, le_of_eq, lt_of_le_of_lt, lt_of_lt_of_le, lt_of_not-le, mul_comm, mul_right_comm, one-mul, mul-lt-mul_of_pos_right, mul-le-mul_right, le_of_mul-le-mul_right, lt_of_mul-lt-mul_right, le-div_iff_mul-le, mod-eq_of_lt, arith, le→leb, nltb→le, lit<, pow-add, pow_pos, pow_mono, lt-ltb, le-ltb}
use Rattle.std.proofs.Math.Bool.{true, false}
use Prim.Native.Nat.{ℕ, zero, suc, ◌+◌, ◌-◌, ◌*◌, ◌/◌, ◌%◌, ◌^◌, ◌≤◌, ◌<◌, compare, Ordering}
use Rattle.std.proofs.Math.Decide.{dec_le}
use Rattle.std.proofs.Math.Nat.{div-div-eq-div-mul}
use Rattle.std.specs.Float.{nan, inf, fin}
use Rattle.std.specs.Float.Ieee.{binary32, up, down, unlike, round, mul, of_int, fits, lt, of_bits, is_nan, units, odd, size, nearest}
use Rattle.std.specs.Float.Ieee.Digits.{size_reaches}
use Rattle.std.specs.Float.Ieee.Scale.{finite}
use Rattle.std.specs.Float.Ieee.Fits.{down_pos, round_is}
use Rattle.std.specs.Float.Ieee.Exact.{HasValue}
use Rattle.std.specs.Float.Ieee.Positive.{num, den}
use Rattle.shaping.specs.ExtractLaws.{digits_from}
use Rattle.quantiser.specs.FloatLaws.{mul_is, scale-exact, pow-float}
use Rattle.quantiser.specs.Scale.{one32, minus_one32, held, scaled}
use Rattle.quantiser.specs.Inner.{within}

-- ---- a finite value times a power of two, held to -1..1, is within -1..1
pub units-no-nan : (s : Bool) (q k : ℕ) → T (not (is_nan (units binary32 s q k)))
unfolding units
units-no-nan s q k = go (ltb (q * 2 ^ k) (2 ^ 277)) q
  where
    go : (b : Bool) (q : ℕ) → T (not (is_nan (cond b (odd 25 s q k 149) (inf s))))
    go true zero = unfold odd is_nan in tt
    go true (suc q) = unfold odd is_nan in tt
    go false q = unfold is_nan in tt

pub round-no-nan : (s : Bool) (a c : ℕ) → T (not (is_nan (round binary32 s a c)))
round-no-nan s a c = rw round_is (units-no-nan s _ _)

pub mul-no-nan : (x y : Float) → T (finite x) → T (finite y) → T (not (is_nan (mul binary32 x y)))
unfolding mul
mul-no-nan (fin s m e) (fin t n d) p q = round-no-nan (unlike s t) (m * up e * (n * up d)) (down e * down d)
mul-no-nan (fin s m e) (inf t) p q = absurd q
mul-no-nan (fin s m e) nan p q = absurd q
mul-no-nan (inf s) y p q = absurd p
mul-no-nan nan y p q = absurd p

pub held-within : (z : Float) → T (not (is_nan z)) → T (within (held z))
unfolding held lt of_bits within is_nan
held-within nan h = absurd h
held-within (inf true) h = tt
held-within (inf false) h = tt
held-within (fin true m e) h = go (ltb (1 * down e) (m * up e * 1)) (nltb→le (1 * down e) (m * up e * 1))
  where
    go : (b : Bool) → (T (not b) → m * up e * 1 ≤ 1 * down e) → T (within (cond b (fin true 1 (pos 0)) (fin true m e)))
    go true k = tt
    go false k = let l = k tt in le→leb (m * up e) (down e) (omega arith)
held-within (fin false m e) h = go (ltb (1 * down e) (m * up e * 1)) (nltb→le (1 * down e) (m * up e * 1))
  where
    go : (b : Bool) → (T (not b) → m * up e * 1 ≤ 1 * down e) → T (within (cond b (fin false 1 (pos 0)) (fin false m e)))
    go true k = tt
    go false k = let l = k tt in le→leb (m * up e) (down e) (omega arith)

pub scaled-within : (x : Float) (k : ℕ) → T (finite x) → k ≤ 24 → T (within (scaled x k))
unfolding scaled
scaled-within x k h K = held-within (mul binary32 x (of_int binary32 (pos (2 ^ k)))) (mul-no-nan x (of_int binary32 (pos (2 ^ k))) h (rw (pow-float k K) tt))

pub within-finite : (x : Float) → T (within x) → T (finite x)
unfolding within
within-finite nan h = h
within-finite (inf s) h = h
within-finite (fin s m e) h = tt

-- ---- a u32's 1 << k
pub power-is : (k : ℕ) → k ≤ 24 → 1 * 2 ^ k % 4294967296 ≡ 2 ^ k
power-is k h = ap (λ (n : ℕ). n % 4294967296) (one-mul (2 ^ k)) ∙ mod-eq_of_lt (lt_of_le_of_lt (pow_mono h) (lit< tt))

-- ---- exact where the product is at most 1 in size

at_most : (x d a c : ℕ) → 0 < c → x * c ≡ a * d → a ≤ c → x ≤ d
at_most x d a c C e l = le_of_mul-le-mul_right (le_trans (le_of_eq e) (le_trans (mul-le-mul_right d l) (le_of_eq (mul_comm c d)))) C

below-range : (d : ℕ) → 0 < d → d < 2 ^ 128 * d
below-range d D = lt_of_le_of_lt (le_of_eq (sym (one-mul d))) (mul-lt-mul_of_pos_right (lit< tt) D)

held-id : (y : Float) (s : Bool) (a c : ℕ) → 0 < c → HasValue y s a c → a ≤ c → held y ≡ y
unfolding held lt of_bits
held-id nan s a c C h l = absurd h
held-id (inf t) s a c C h l = absurd h
held-id (fin true p d) s a c C h l =
    let k : p * up d ≤ down d = at_most (p * up d) (down d) a c C h.1 l in
    rw (le-ltb (1 * down d) (p * up d * 1) (omega arith))
held-id (fin false p d) s a c C h l =
    let k : p * up d ≤ down d = at_most (p * up d) (down d) a c C h.1 l in
    rw (le-ltb (1 * down d) (p * up d * 1) (omega arith))

module _ (s : Bool) (m : ℕ) (e : ℤ) (k : ℕ) (f : T (fits binary32 (fin s m e))) (K : k ≤ 24) (h : m * up e * 2 ^ k ≤ down e) where
  product-exact : HasValue (mul binary32 (fin s m e) (of_int binary32 (pos (2 ^ k)))) s (m * up e * 2 ^ k) (down e)
  product-exact = rw (pow-float k K) (scale-exact s m e k f (lt_of_le_of_lt h (below-range (down e) (down_pos e))))

  -- it is the product, not -1 or 1 for it
  scaled-unheld : scaled (fin s m e) k ≡ mul binary32 (fin s m e) (of_int binary32 (pos (2 ^ k)))
  unfolding scaled
  scaled-unheld = held-id (mul binary32 (fin s m e) (of_int binary32 (pos (2 ^ k)))) s (m * up e * 2 ^ k) (down e) (down_pos e) product-exact h

  pub scaled_exact : HasValue (scaled (fin s m e) k) s (m * up e * 2 ^ k) (down e)
  scaled_exact = rw scaled-unheld product-exact

less-than : (y : Float) (s : Bool) (a c : ℕ) → HasValue y s a c → a < c → num y < den y
less-than nan s a c h l = absurd h
less-than (inf t) s a c h l = absurd h
less-than (fin t p d) s a c h l =
    lt_of_mul-lt-mul_right c (lt_of_le_of_lt (le_of_eq h.1) (lt_of_lt_of_le (mul-lt-mul_of_pos_right l (down_pos d)) (le_of_eq (mul_comm c (down d)))))

-- where |x| × 2^k is below 1, the mantissa is below 1 in size, and nothing was held
pub scaled-below-one : (x : Float) (k : ℕ) → T (fits binary32 x) → T (finite x) → k ≤ 24 → num x * 2 ^ k < den x
    → (num (scaled x k) < den (scaled x k)) × (scaled x k ≡ mul binary32 x (of_int binary32 (pos (2 ^ k))))
scaled-below-one nan k f t K h = absurd t
scaled-below-one (inf s) k f t K h = absurd t
scaled-below-one (fin s m e) k f t K h =
    let l : m * up e * 2 ^ k ≤ down e = omega (arith, h) in
    (less-than (scaled (fin s m e) k) s (m * up e * 2 ^ k) (down e) (scaled_exact s m e k f K l) h, scaled-unheld s m e k f K l)

-- ---- and -1 or 1 where it is more

nearest-above : (q : ℕ) (o : Ordering) → q ≤ nearest q o
nearest-above q Ordering.lt = omega arith
nearest-above q Ordering.eq = omega arith
nearest-above q Ordering.gt = omega arith

-- past the format's range, 2^277 of its smallest values, a fraction is rounded to an infinity
round-overflow : (s : Bool) (a c : ℕ) → 0 < c → 2 ^ 277 ≤ a * 2 ^ 149 / c → round binary32 s a c ≡ inf s
unfolding round units
round-overflow s a c C h =
    let n = a * 2 ^ 149 in
    let k = size (n / c) - 24 in
    let big : 277 < size (n / c) = digits_from (n / c) 277 h in
    let reach : 2 ^ 23 * 2 ^ k ≤ n / c = rw (pow-add 2 23 k) at (size_reaches (n / c) (23 + k) (omega arith)) in
    let low : 2 ^ 23 ≤ n / (c * 2 ^ k) = rw (div-div-eq-div-mul n c (2 ^ k)) at ((le-div_iff_mul-le (pow_pos k)).1 reach) in
    let kept : 2 ^ 23 ≤ nearest (n / (c * 2 ^ k)) (compare (n % (c * 2 ^ k) * 2) (c * 2 ^ k)) = le_trans low (nearest-above (n / (c * 2 ^ k)) (compare (n % (c * 2 ^ k) * 2) (c * 2 ^ k))) in
    let far : 2 ^ 277 ≤ 2 ^ 23 * 2 ^ k = rw (pow-add 2 23 k) at (let g : 277 ≤ 23 + k = omega arith in pow_mono g) in
    rw (le-ltb _ _ (le_trans far (mul-le-mul_right (2 ^ k) kept)))

more-than : (x d a c : ℕ) → 0 < d → x * c ≡ a * d → c < a → d < x
more-than x d a c D e l =
    lt_of_mul-lt-mul_right c (lt_of_lt_of_le (lt_of_le_of_lt (le_of_eq (mul_comm d c)) (mul-lt-mul_of_pos_right l D)) (le_of_eq (sym e)))

range-units : (d : ℕ) → 2 ^ 277 * d ≡ 2 ^ 128 * d * 2 ^ 149
range-units d = ap (λ (x : ℕ). x * d) (pow-add 2 128 149) ∙ mul_right_comm (2 ^ 128) (2 ^ 149) d

held-above : (y : Float) (s : Bool) (a c : ℕ) → 0 < c → HasValue y s a c → c < a → held y ≡ cond s minus_one32 one32
unfolding held lt of_bits
held-above nan s a c C h l = absurd h
held-above (inf t) s a c C h l = absurd h
held-above (fin true p d) s a c C h l =
    let k : down d < p * up d = more-than (p * up d) (down d) a c (down_pos d) h.1 l in
    rw (lt-ltb (1 * down d) (p * up d * 1) (omega arith), ← h.0)
held-above (fin false p d) s a c C h l =
    let k : down d < p * up d = more-than (p * up d) (down d) a c (down_pos d) h.1 l in
    rw (lt-ltb (1 * down d) (p * up d * 1) (omega arith), ← h.0)

held-infinite : (s : Bool) → held (inf s) ≡ cond s minus_one32 one32
unfolding held lt of_bits
held-infinite true = refl
held-infinite false = refl

-- scaling saturates where the product is more than 1 in size
pub scaled-saturates : (s : Bool) (m : ℕ) (e : ℤ) (k : ℕ) → T (fits binary32 (fin s m e)) → k ≤ 24 → down e < m * up e * 2 ^ k
    → scaled (fin s m e) k ≡ cond s minus_one32 one32
unfolding scaled
scaled-saturates s m e k f K h = rw (pow-float k K) (by-range (dec_le (2 ^ 128 * down e) (m * up e * 2 ^ k)))
  where
    by-range : Dec (2 ^ 128 * down e ≤ m * up e * 2 ^ k) → held (mul binary32 (fin s m e) (fin false 1 (pos k))) ≡ cond s minus_one32 one32
    by-range (no l) =
        held-above (mul binary32 (fin s m e) (fin false 1 (pos k))) s (m * up e * 2 ^ k) (down e) (down_pos e)
        (scale-exact s m e k f (lt_of_not-le l)) h
    by-range (yes l) =
        let far : 2 ^ 277 * down e ≤ m * up e * 2 ^ k * 2 ^ 149 = le_trans (le_of_eq (range-units (down e))) (mul-le-mul_right (2 ^ 149) l) in
        let o : round binary32 s (m * up e * 2 ^ k) (down e) ≡ inf s =
        round-overflow s (m * up e * 2 ^ k) (down e) (down_pos e) ((le-div_iff_mul-le (down_pos e)).1 far) in
        ap held (mul_is s m e k ∙ o) ∙ held-infinite s
