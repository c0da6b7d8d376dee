-- What a code stands for, over the number of levels and over the width: a value of at most 1, of its own sign, and the value's own code.
use Rattle.std.specs.Prelude.{◌≡◌, Bool, true, false, ℕ, suc, ◌+◌, ◌-◌, ◌*◌, ◌/◌, ◌^◌, ◌≤◌, ◌<◌, min, T, ltb, eqb, Float}
use Rattle.std.proofs.Common.{sym, ap, subst, ◌∙◌, true≢false, le_trans, le_of_eq, lt_of_lt_of_le, mul_assoc, zero-mul, mul-pos, mul-div_cancel, mul-lt-mul_of_pos_right, mod-eq_of_lt, lt-ltb, le-ltb, ltb-true, ltb-false, eqb→eq, lit<, pow-add, pow_pos, pow_mono}
use Rattle.std.proofs.Math.Nat.{lt_of_le_of_lt, pow-succ'}
use native.Mathlib.Omega.{arith}
use Rattle.std.specs.Float.{nan, inf, fin}
use Rattle.std.specs.Float.Ieee.{binary32, up, down, round, lt, sub, neg, of_bits}
use Rattle.std.specs.Float.Ieee.Exact.{HasValue, round_exact}
use Rattle.std.specs.Float.Ieee.Fits.{down_pos}
use Rattle.std.specs.Float.Ieee.Positive.{num, den, den_pos, first_pos}
use Rattle.bits.specs.Tests.{by_bool}
use Rattle.tables.specs.Computed.{all_below, at-index}
use Rattle.tables.specs.Entry.{entry}
use Rattle.tables.specs.Quantizer.{level, levels, level_count, level_counts}
use Rattle.quantiser.specs.Asymmetric.{half_away, signed_code}
use Rattle.quantiser.proofs.AsymmetricLaws.{away-is}
use Rattle.quantiser.specs.Scale.{zero32}
use Rattle.quantiser.specs.Symmetric.{nearest_of}
use Rattle.reconstruct.specs.QuotientLaws.{Held, held-quotient}
use Rattle.reconstruct.specs.Value.{negative, size, fraction}

-- ---- L symmetric levels

level-size : (L k : ℕ) → k < L → (2 * k - (L - 1)) + (L - 1 - 2 * k) ≤ L
level-size L k h = omega arith

pub held-level : (L k : ℕ) → k < L → L ≤ 2 ^ 24 → Held (ltb (2 * k) (L - 1)) ((2 * k - (L - 1)) + (L - 1 - 2 * k)) (level L k)
unfolding level
held-level L k h l = held-quotient (ltb (2 * k) (L - 1)) ((2 * k - (L - 1)) + (L - 1 - 2 * k)) L (omega arith) (level-size L k h) l

-- ---- two's complement of a width

pub double : (w : ℕ) → 1 ≤ w → 2 ^ w ≡ 2 * 2 ^ (w - 1)
double w h = ap (λ (k : ℕ). 2 ^ k) (let e : w ≡ suc (w - 1) = omega arith in e) ∙ pow-succ' 2 (w - 1)

module _ (w j : ℕ) (W : 1 ≤ w) (J : j < 2 ^ w) where
  -- the size of a code that is below zero, and of one that is not
  pub size_below : 2 ^ (w - 1) ≤ j → (negative w j ≡ true) × (size w j ≡ 2 ^ w - j)
  unfolding negative size
  size_below h = (rw (le-ltb j (2 ^ (w - 1)) h), rw (le-ltb j (2 ^ (w - 1)) h))

  pub size_above : j < 2 ^ (w - 1) → (negative w j ≡ false) × (size w j ≡ j)
  unfolding negative size
  size_above h = (rw (lt-ltb j (2 ^ (w - 1)) h), rw (lt-ltb j (2 ^ (w - 1)) h))

  pub size-most : size w j ≤ 2 ^ (w - 1)
  size-most =
      by_bool (ltb j (2 ^ (w - 1)))
      (λ t. let l = ltb-true j (2 ^ (w - 1)) t in let e = (size_above l).1 in omega arith)
      (λ t. let l = ltb-false j (2 ^ (w - 1)) t in let e = (size_below l).1 in let d = double w W in omega arith)

  -- a size of 0 has no sign
  pub size-some : negative w j ≡ true → 0 < size w j
  size-some n =
      by_bool (ltb j (2 ^ (w - 1)))
      (λ t. absurd (true≢false (sym n ∙ (size_above (ltb-true j (2 ^ (w - 1)) t)).0)))
      (λ t. let l = ltb-false j (2 ^ (w - 1)) t in let e = (size_below l).1 in omega arith)

  module _ (most : w ≤ 16) where
    half-most : 2 ^ (w - 1) ≤ 2 ^ 24
    half-most = pow_mono (let l : w - 1 ≤ 24 = omega arith in l)

    -- the f32 is exactly the signed code over 2^(w - 1)
    pub fraction-exact : HasValue (fraction w j) (negative w j) (size w j) (2 ^ (w - 1))
    unfolding fraction
    fraction-exact = round_exact binary32 (negative w j) (size w j) (2 ^ (w - 1)) (size w j) (149 - (w - 1)) (pow_pos (w - 1)) few fine product
      where
        few : size w j < 2 ^ 24
        few = lt_of_le_of_lt (le_trans size-most (pow_mono (let l : w - 1 ≤ 15 = omega arith in l))) (lit< tt)

        product : size w j * 2 ^ 149 ≡ size w j * 2 ^ (149 - (w - 1)) * 2 ^ (w - 1)
        product =
            ap (λ (x : ℕ). size w j * x) (ap (λ (k : ℕ). 2 ^ k) (let e : 149 ≡ 149 - (w - 1) + (w - 1) = omega arith in e) ∙ pow-add 2 (149 - (w - 1)) (w - 1))
            ∙ sym (mul_assoc (size w j) (2 ^ (149 - (w - 1))) (2 ^ (w - 1)))

        fine : size w j * 2 ^ (149 - (w - 1)) < 2 ^ 277
        fine =
            lt_of_lt_of_le (mul-lt-mul_of_pos_right few (pow_pos (149 - (w - 1))))
            (le_trans (le_of_eq (sym (pow-add 2 24 (149 - (w - 1))))) (pow_mono (let l : 24 + (149 - (w - 1)) ≤ 277 = omega arith in l)))

    pub held-fraction : Held (negative w j) (size w j) (fraction w j)
    unfolding fraction
    held-fraction = held-quotient (negative w j) (size w j) (2 ^ (w - 1)) (pow_pos (w - 1)) size-most half-most

-- ---- the code of a value

pub value-size : (x : Float) (s : Bool) (a c : ℕ) → HasValue x s a c → num x * c ≡ a * den x
value-size nan s a c v = absurd v
value-size (inf t) s a c v = absurd v
value-size (fin t m e) s a c v = v.1

above_zero : (x : Float) (a c : ℕ) → HasValue x false a c → lt x zero32 ≡ false
unfolding lt of_bits
above_zero nan a c v = absurd v
above_zero (inf t) a c v = absurd v
above_zero (fin true m e) a c v = absurd (true≢false v.0)
above_zero (fin false m e) a c v = le-ltb (m * up e * 1) (0 * 1 * down e) (omega (arith, zero-mul (down e)))

below-zero : (x : Float) (a c : ℕ) → 0 < a → HasValue x true a c → lt x zero32 ≡ true
unfolding lt of_bits
below-zero nan a c A v = absurd v
below-zero (inf t) a c A v = absurd v
below-zero (fin false m e) a c A v = absurd (true≢false (sym v.0))
below-zero (fin true m e) a c A v =
    let l : 0 < m * up e * c = rw v.1 (mul-pos A (down_pos e)) in
    let k : 0 < m * up e = first_pos (m * up e) c l in
    lt-ltb 0 (m * up e * 1 + 0 * 1 * down e) (omega arith)

-- a whole number rounds to itself
whole-away : (a d : ℕ) → 0 < d → half_away (a * d) d ≡ a
whole-away a d D =
    sym (away-is (a * d) d D) ∙ ap (λ (x : ℕ). (x + 1) / 2) (ap (λ (x : ℕ). x / d) (sym (mul_assoc 2 a d)) ∙ mul-div_cancel (2 * a) D) ∙ (let e : (2 * a + 1) / 2 ≡ a = omega arith in e)

-- the code of bap 6 to 15 that a fraction is quantised to is its own
pub own-fraction : (w j : ℕ) → 1 ≤ w → w ≤ 16 → j < 2 ^ w → signed_code w (fraction w j) ≡ j
unfolding signed_code
own-fraction w j W most J = by_bool (ltb j (2 ^ (w - 1))) (λ t. above (ltb-true j (2 ^ (w - 1)) t)) (λ t. below (ltb-false j (2 ^ (w - 1)) t))
  where
    v : HasValue (fraction w j) (negative w j) (size w j) (2 ^ (w - 1))
    v = fraction-exact w j W J most

    rounded : half_away (num (fraction w j) * 2 ^ (w - 1)) (den (fraction w j)) ≡ size w j
    rounded =
        ap (λ (x : ℕ). half_away x (den (fraction w j))) (value-size (fraction w j) (negative w j) (size w j) (2 ^ (w - 1)) v)
        ∙ whole-away (size w j) (den (fraction w j)) (den_pos (fraction w j))

    above : j < 2 ^ (w - 1) → signed_code w (fraction w j) ≡ j
    above l =
        let n = size_above w j W J l in
        rw (above_zero (fraction w j) (size w j) (2 ^ (w - 1)) (subst (λ (b : Bool). HasValue (fraction w j) b (size w j) (2 ^ (w - 1))) n.0 v), rounded, n.1)
        (let e : min j (2 ^ (w - 1) - 1) ≡ j = omega arith in e)

    below : 2 ^ (w - 1) ≤ j → signed_code w (fraction w j) ≡ j
    below l =
        let n = size_below w j W J l in
        let m : 2 ^ w - j ≤ 2 ^ (w - 1) = rw n.1 at (size-most w j W J) in
        rw (
          below-zero (fraction w j) (size w j) (2 ^ (w - 1)) (size-some w j W J n.0) (subst (λ (b : Bool). HasValue (fraction w j) b (size w j) (2 ^ (w - 1))) n.0 v),
          rounded,
          n.1,
          (let e : 2 ^ w - min (2 ^ w - j) (2 ^ (w - 1)) ≡ j = omega arith in e),
        )
        (mod-eq_of_lt J)

-- and so is the code of bap 1 to 5 of a level: it is nearer to itself than to each other level of its table
own_level : ℕ → ℕ → Bool
own_level b k = eqb (nearest_of (level (level_count (1 + b)) k) (levels (level_count (1 + b)))) k

own-levels : T (all_below 5 (λ b. all_below (level_count (1 + b)) (own_level b)))
unfolding own_level nearest_of level levels level_count level_counts entry lt sub neg round of_bits
own-levels = tt

pub own-level : (b k : ℕ) → 1 ≤ b → b ≤ 5 → k < level_count b → nearest_of (level (level_count b) k) (levels (level_count b)) ≡ k
unfolding own_level
own-level b k h l K =
    let e : 1 + (b - 1) ≡ b = omega arith in
    let t : T (all_below (level_count (1 + (b - 1))) (own_level (b - 1))) = at-index 5 (λ b. all_below (level_count (1 + b)) (own_level b)) own-levels (b - 1) (omega arith) in
    let n : k < level_count (1 + (b - 1)) = rw e K in
    let q : nearest_of (level (level_count (1 + (b - 1))) k) (levels (level_count (1 + (b - 1)))) ≡ k = eqb→eq _ k (at-index (level_count (1 + (b - 1))) (own_level (b - 1)) t k n) in
    rw e at q
