-- An f32 as a whole number of 2^-149, its smallest values; and the biased exponent field from how many binary digits that number has.
use Rattle.std.specs.Prelude.{◌≡◌, Bool, true, false, not, cond, ◌&&◌, ℕ, zero, suc, ◌+◌, ◌-◌, ◌*◌, ◌/◌, ◌%◌, ◌^◌, ◌≤◌, ◌<◌, ℤ, pos, negsuc, T, leb, ltb, eqb, Float}
use Rattle.std.proofs.Common.{sym, ap, ◌∙◌, le_trans, le_of_eq, lt_of_le_of_lt, lt_of_lt_of_le, mul_assoc, mul_comm, mul_right_comm, mul-one, one-mul, zero-mul, mul-lt-mul_of_pos_right, lt_of_mul-lt-mul_right, mul-pos, mul-le-mul_right, div-lt_iff_lt-mul, le-div_iff_mul-le, mul-div_cancel, div-one, le_of_mul-le-mul_right, not-le_of_lt, arith, leb→le, ltb→lt, eqb→eq, nltb→le, lit≤, lit<, pow-add, pow_pos, pow_mono}
use Rattle.std.proofs.Math.Dec.{nleb→lt}
use Rattle.std.proofs.Math.Pow.{pow-lt}
use Rattle.std.specs.Float.{nan, inf, fin, binary32}
use Rattle.std.specs.Float.Ieee.{up, down, fits, size, to_bits, is_nan}
use Rattle.std.specs.Float.Ieee.Digits.{size-lt, size-le, size_reaches}
use Rattle.std.specs.Float.Ieee.Fits.{and_l, and_r, down_pos, kept-lt}
use Rattle.std.specs.Float.Ieee.Scale.{finite}
use Rattle.shaping.specs.Extract.{biased_exponent}

-- ---- what an f32 has: an exponent of -149 at least, and a size below 2 ^ 128

pub down_le : (s : Bool) (m : ℕ) (e : ℤ) → T (fits binary32 (fin s m e)) → down e ≤ 2 ^ 149
unfolding fits
down_le s zero (pos k) t = lit≤ tt
down_le s zero (negsuc k) t = le_trans (le_of_eq (sym (one-mul (2 ^ suc k)) ∙ eqb→eq (1 * 2 ^ suc k) 1 t)) (lit≤ tt)
down_le s (suc m) e t =
    leb→le (down e) (2 ^ 149)
    (and_r (eqb (suc m % 2) 1 && ltb (suc m) (2 ^ 24)) (leb (down e) (2 ^ 149))
    (and_l (eqb (suc m % 2) 1 && ltb (suc m) (2 ^ 24) && leb (down e) (2 ^ 149)) (ltb (suc m * up e) (2 ^ 128 * down e)) t))

pub in-range : (s : Bool) (m : ℕ) (e : ℤ) → T (fits binary32 (fin s m e)) → m * up e < 2 ^ 128 * down e
unfolding fits
in-range s zero e t = lt_of_le_of_lt (le_of_eq (zero-mul (up e))) (mul-pos (lit< tt) (down_pos e))
in-range s (suc m) e t =
    ltb→lt (suc m * up e) (2 ^ 128 * down e)
    (and_r (eqb (suc m % 2) 1 && ltb (suc m) (2 ^ 24) && leb (down e) (2 ^ 149)) (ltb (suc m * up e) (2 ^ 128 * down e)) t)

-- 2 ^ e is 2 ^ shift e of the smallest values
abbrev pub shift : ℤ → ℕ
shift (pos k) = k + 149
shift (negsuc k) = 149 - suc k

under : (k : ℕ) → 2 ^ suc k ≤ 2 ^ 149 → suc k ≤ 149
under k h = go (leb (suc k) 149) (leb→le (suc k) 149) (nleb→lt (suc k) 149)
  where
    go : (b : Bool) → (T b → suc k ≤ 149) → (T (not b) → 149 < suc k) → suc k ≤ 149
    go true p q = p tt
    go false p q = absurd (not-le_of_lt (pow-lt (q tt)) h)

less : (k : ℕ) → suc k ≤ 149 → 149 - suc k + suc k ≡ 149
less k h = omega arith

pub shift-value : (e : ℤ) → down e ≤ 2 ^ 149 → up e * 2 ^ 149 ≡ 2 ^ shift e * down e
shift-value (pos k) h = sym (pow-add 2 k 149) ∙ sym (mul-one (2 ^ (k + 149)))
shift-value (negsuc k) h = one-mul (2 ^ 149) ∙ ap (λ (n : ℕ). 2 ^ n) (sym (less k (under k h))) ∙ pow-add 2 (149 - suc k) (suc k)

-- ---- the field of a pattern, from n smallest values

field_is : (s : Bool) (n : ℕ) → size n ≤ 277 → (cond s 2147483648 0 + (size n - 24) * 8388608 + n / 2 ^ (size n - 24)) / 8388608 % 256 ≡ size n - 23
field_is s n h = go s (ltb (size n) 24) (ltb→lt (size n) 24) (nltb→le (size n) 24)
  where
    low_part : size n < 24 → n / 2 ^ (size n - 24) ≡ n
    low_part l = ap (λ (k : ℕ). n / 2 ^ k) (let e : size n - 24 ≡ 0 = omega arith in e) ∙ div-one n

    low-lt : size n < 24 → n < 2 ^ 23
    low-lt l = lt_of_lt_of_le (size-lt n) (pow_mono (let e : size n ≤ 23 = omega arith in e))

    high : 24 ≤ size n → 2 ^ 23 ≤ n / 2 ^ (size n - 24)
    high l =
        (le-div_iff_mul-le (pow_pos (size n - 24))).1
        (le_trans (le_of_eq (sym (pow-add 2 23 (size n - 24)) ∙ ap (λ (k : ℕ). 2 ^ k) (let e : 23 + (size n - 24) ≡ size n - 1 = omega arith in e)))
        (size_reaches n (size n - 1) (let e : size n - 1 < size n = omega arith in e)))

    go : (s t : Bool) → (T t → size n < 24) → (T (not t) → 24 ≤ size n) → (cond s 2147483648 0 + (size n - 24) * 8388608 + n / 2 ^ (size n - 24)) / 8388608 % 256 ≡ size n - 23
    go true true a b = let l = a tt in let e = low_part l in let k = low-lt l in omega arith
    go false true a b = let l = a tt in let e = low_part l in let k = low-lt l in omega arith
    go true false a b = let l = b tt in let e = high l in let k = kept-lt 24 n in omega arith
    go false false a b = let l = b tt in let e = high l in let k = kept-lt 24 n in omega arith

-- ---- an f32 in its smallest values

module _ (s : Bool) (m : ℕ) (e : ℤ) (f : T (fits binary32 (fin s m e))) where
  abbrev pub smallest : ℕ
  smallest = m * up e * 2 ^ 149 / down e

  pub smallest-exact : m * up e * 2 ^ 149 ≡ smallest * down e
  smallest-exact =
      let h : m * up e * 2 ^ 149 ≡ m * 2 ^ shift e * down e =
      mul_assoc m (up e) (2 ^ 149) ∙ ap (λ (x : ℕ). m * x) (shift-value e (down_le s m e f)) ∙ sym (mul_assoc m (2 ^ shift e) (down e)) in
      h ∙ ap (λ (x : ℕ). x * down e) (sym (ap (λ (x : ℕ). x / down e) h ∙ mul-div_cancel (m * 2 ^ shift e) (down_pos e)))

  -- times 2 ^ k
  scaled_exact : (k : ℕ) → m * up e * 2 ^ k * 2 ^ 149 ≡ smallest * 2 ^ k * down e
  scaled_exact k =
      mul_right_comm (m * up e) (2 ^ k) (2 ^ 149) ∙ ap (λ (x : ℕ). x * 2 ^ k) smallest-exact ∙ mul_right_comm smallest (down e) (2 ^ k)

  -- |x| * 2 ^ k is at least 1 exactly where it is 2 ^ 149 of the smallest values
  pub reaches-one : (k : ℕ) → 2 ^ 149 ≤ smallest * 2 ^ k → down e ≤ m * up e * 2 ^ k
  reaches-one k h =
      le_of_mul-le-mul_right
      (le_trans (le_of_eq (mul_comm (down e) (2 ^ 149))) (le_trans (mul-le-mul_right (down e) h) (le_of_eq (sym (scaled_exact k))))) (pow_pos 149)

  pub one-reached : (k : ℕ) → down e ≤ m * up e * 2 ^ k → 2 ^ 149 ≤ smallest * 2 ^ k
  one-reached k h =
      le_of_mul-le-mul_right
      (le_trans (le_of_eq (mul_comm (2 ^ 149) (down e))) (le_trans (mul-le-mul_right (2 ^ 149) h) (le_of_eq (scaled_exact k)))) (down_pos e)

  -- how many digits it has, from a bound on |x|
  pub digits-below : (j : ℕ) → m * up e < 2 ^ j * down e → size smallest ≤ 149 + j
  digits-below j h =
      size-le smallest (149 + j) ((div-lt_iff_lt-mul (down_pos e)).1
      (lt_of_lt_of_le (mul-lt-mul_of_pos_right h (pow_pos 149))
      (le_of_eq (mul_comm (2 ^ j * down e) (2 ^ 149) ∙ sym (mul_assoc (2 ^ 149) (2 ^ j) (down e)) ∙ ap (λ (x : ℕ). x * down e) (sym (pow-add 2 149 j))))))

  pub biased-is : biased_exponent (fin s m e) ≡ size smallest - 23
  unfolding to_bits
  biased-is = field_is s smallest (digits-below 128 (in-range s m e f))

  -- at a scale that its digits leave room for, it stays below 1
  pub below_one : (k : ℕ) → size smallest + k ≤ 149 → m * up e * 2 ^ k < down e
  below_one k w =
      let a : smallest * 2 ^ k < 2 ^ 149 =
      lt_of_lt_of_le (mul-lt-mul_of_pos_right (size-lt smallest) (pow_pos k)) (le_trans (le_of_eq (sym (pow-add 2 (size smallest) k))) (pow_mono w)) in
      lt_of_mul-lt-mul_right (2 ^ 149)
      (lt_of_le_of_lt (le_of_eq (scaled_exact k))
      (lt_of_lt_of_le (mul-lt-mul_of_pos_right a (down_pos e)) (le_of_eq (mul_comm (2 ^ 149) (down e)))))

-- what is finite is no NaN
pub finite_number : (x : Float) → T (finite x) → T (not (is_nan x))
unfolding is_nan
finite_number nan h = absurd h
finite_number (inf s) h = absurd h
finite_number (fin s m e) h = tt
