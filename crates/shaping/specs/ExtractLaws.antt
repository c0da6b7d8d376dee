-- The exponent is A/52's (7.1): a coefficient is mantissa × 2^-exponent with the mantissa's size from 1/2 up to 1, wherever 0..24 allow it.
-- |x| is num x / den x, in whole numbers.
use Rattle.std.specs.Prelude.{◌≡◌, Bool, true, false, ℕ, suc, ◌+◌, ◌-◌, ◌*◌, ◌^◌, ◌≤◌, ◌<◌, min, ℤ, T, Float, Ok, IfOk}
use Rattle.std.proofs.Common.{sym, ap, ◌∙◌, le_trans, le_of_eq, lt_of_lt_of_le, mul-one, mul-le-mul_right, le_of_mul-le-mul_right, le_of_suc-le-suc, lt_of_not-le, not-le_of_lt, arith, pow-add, pow_pos, pow_mono}
use Rattle.std.specs.Float.{nan, inf, fin, binary32}
use Rattle.std.specs.Float.Ieee.{up, down, fits, size}
use Rattle.std.specs.Float.Ieee.Digits.{size-lt, size_reaches}
use Rattle.std.specs.Float.Ieee.Positive.{num, den}
use Rattle.std.specs.Float.Ieee.Scale.{finite}
use Rattle.bits.specs.Answer.{must}
use Rattle.bits.specs.declared.refusal.Refusal.TheVariants as refusal
use Rattle.shaping.specs.Extract.{exponent_of, extracted}
use Rattle.shaping.specs.FloatLaws.{smallest, reaches-one, one-reached, biased-is, below_one}

-- ---- digits and powers

pub digits_from : (n a : ℕ) → 2 ^ a ≤ n → a < size n
digits_from n a h = lt_of_not-le (λ (g : size n ≤ a). not-le_of_lt (lt_of_lt_of_le (size-lt n) (pow_mono g)) h)

less-scaled : (n a k : ℕ) → 2 ^ (a + k) ≤ n * 2 ^ k → 2 ^ a ≤ n
less-scaled n a k h = le_of_mul-le-mul_right (le_trans (le_of_eq (sym (pow-add 2 a k))) h) (pow_pos k)

scaled-from : (n k : ℕ) → 0 < size n → size n + k ≡ 150 → 2 ^ 149 ≤ n * 2 ^ k
scaled-from n k p e =
    let z : 149 ≡ size n - 1 + k = omega arith in
    le_trans (le_of_eq (ap (λ (j : ℕ). 2 ^ j) z ∙ pow-add 2 (size n - 1) k))
    (mul-le-mul_right (2 ^ k) (size_reaches n (size n - 1) (let l : size n - 1 < size n = omega arith in l)))

-- ---- the exponent from the digits

module _ (s : Bool) (m : ℕ) (e : ℤ) (f : T (fits binary32 (fin s m e))) where
  abbrev n : ℕ
  n = smallest s m e f

  exponent-is : exponent_of (fin s m e) ≡ min 24 (149 - size n)
  unfolding exponent_of
  exponent-is = omega (arith, biased-is s m e f)

  -- 2 ^ -k ≤ |x|
  digits_above : (k : ℕ) → k ≤ 149 → down e ≤ m * up e * 2 ^ k → 149 - k < size n
  digits_above k l h =
      let z : 149 - k + k ≡ 149 = omega arith in
      digits_from n (149 - k) (less-scaled n (149 - k) k (le_trans (le_of_eq (ap (λ (j : ℕ). 2 ^ j) z)) (one-reached s m e f k h)))

  -- |x| < 2 ^ -k
  digits-under : (k : ℕ) → k ≤ 149 → m * up e * 2 ^ k < down e → size n ≤ 149 - k
  digits-under k l h =
      le_of_suc-le-suc (lt_of_not-le (λ (g : suc (149 - k) ≤ size n). not-le_of_lt h (reaches-one s m e f k
      (le_trans (le_of_eq (ap (λ (j : ℕ). 2 ^ j) (let z : 149 ≡ 149 - k + k = omega arith in z) ∙ pow-add 2 (149 - k) k))
      (mul-le-mul_right (2 ^ k) (size_reaches n (149 - k) g))))))

  means : down e ≤ m * up e * 2 ^ 25 → m * up e < down e
      → (down e ≤ m * up e * 2 ^ suc (exponent_of (fin s m e))) × (m * up e * 2 ^ exponent_of (fin s m e) < down e)
  means a b =
      let low : 124 < size n = digits_above 25 (omega arith) a in
      let high : size n ≤ 149 = digits-under 0 (omega arith) (rw (mul-one (m * up e)) b) in
      let k : exponent_of (fin s m e) ≡ 149 - size n = omega (arith, exponent-is) in
      rw k (reaches-one s m e f (suc (149 - size n)) (scaled-from n (suc (149 - size n)) (omega arith) (omega arith)), below_one s m e f (149 - size n) (omega arith))

-- ---- the laws

-- 2^-25 ≤ |x| < 1: then 2^-(exponent + 1) ≤ |x| < 2^-exponent
pub exponent-means : (x : Float) → T (fits binary32 x) → den x ≤ num x * 2 ^ 25 → num x < den x
    → (den x ≤ num x * 2 ^ suc (exponent_of x)) × (num x * 2 ^ exponent_of x < den x)
exponent-means nan f a b = absurd (omega arith)
exponent-means (inf s) f a b = absurd (omega arith)
exponent-means (fin s m e) f a b = means s m e f a b

-- |x| < 2^-25, so also below 2^-126
pub exponent_small : (x : Float) → T (fits binary32 x) → T (finite x) → num x * 2 ^ 25 < den x → exponent_of x ≡ 24
exponent_small nan f t a = absurd t
exponent_small (inf s) f t a = absurd t
exponent_small (fin s m e) f t a = omega (arith, exponent-is s m e f, digits-under s m e f 25 (omega arith) a)

-- 1 ≤ |x|
pub exponent-large : (x : Float) → T (fits binary32 x) → T (finite x) → den x ≤ num x → exponent_of x ≡ 0
exponent-large nan f t a = absurd t
exponent-large (inf s) f t a = absurd t
exponent-large (fin s m e) f t a =
    omega (arith, exponent-is s m e f, digits_above s m e f 0 (omega arith) (rw (mul-one (m * up e)) a))

-- |x| < 1: then |x| stays below 1 at every scale up to its exponent
pub exponent-stays : (x : Float) (k : ℕ) → T (fits binary32 x) → T (finite x) → num x < den x → k ≤ exponent_of x → num x * 2 ^ k < den x
exponent-stays nan k f t a l = absurd t
exponent-stays (inf s) k f t a l = absurd t
exponent-stays (fin s m e) k f t a l =
    below_one s m e f k (omega (arith, l, exponent-is s m e f, digits-under s m e f 0 (omega arith) (rw (mul-one (m * up e)) a)))

pub exponent-at-most : (x : Float) → exponent_of x ≤ 24
unfolding exponent_of
exponent-at-most x = omega arith

pub extracted-most : (x : Float) → IfOk (extracted x) (λ e. e ≤ 24)
unfolding extracted
extracted-most x = by-finite (finite x)
  where
    by-finite : (f : Bool) → IfOk (must f refusal.NotFinite (Ok (exponent_of x))) (λ e. e ≤ 24)
    by-finite true = exponent-at-most x
    by-finite false = tt
