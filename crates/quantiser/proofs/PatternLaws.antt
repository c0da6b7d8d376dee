-- Laws of the pattern of an f32 within -1..1 (IEEE 754 binary32: the sign, 8 bits of exponent, 23 bits of fraction): the whole part of
-- its size times a power of two is its digits shifted, and its sign is the top bit.
use Rattle.std.specs.Prelude.{◌≡◌, Bool, true, false, not, cond, ℕ, ◌+◌, ◌-◌, ◌*◌, ◌/◌, ◌%◌, ◌^◌, ◌≤◌, ◌<◌, min, ℤ, T, Float}
use Rattle.std.proofs.Math.Path.{refl}
use Rattle.std.proofs.Common.{sym, ap, ◌∙◌, true≢false, lt_of_lt_of_le, lt_of_not-le, mul_assoc, arith, pow-add, pow_pos, pow_mono, shr-shr, le-ltb, ltb-false}
use Rattle.std.proofs.Math.Decide.{dec_le}
use Rattle.std.proofs.Math.Nat.{div-eq_of_lt}
use Rattle.std.specs.Int.Bits.{bit_and}
use Rattle.std.specs.Float.{is_sign_negative}
use Rattle.std.specs.Float.{nan, inf, fin, binary32}
use Rattle.std.specs.Float.Ieee.{up, down, fits, lt, is_nan, of_bits, to_bits, size}
use Rattle.std.specs.Float.Ieee.Digits.{size-lt}
use Rattle.std.specs.Float.Ieee.Fits.{down_pos, kept-lt}
use Rattle.std.specs.Float.Ieee.Nearest.{div_same}
use Rattle.std.specs.Float.Ieee.Positive.{num, den}
use Rattle.bits.specs.Tests.{by_bool}
use Rattle.shaping.specs.FloatLaws.{smallest, smallest-exact, digits-below, biased-is, finite_number}
use Rattle.quantiser.specs.Scale.{zero32}
use Rattle.quantiser.specs.Inner.{within}
use Rattle.quantiser.specs.ScaleLaws.{within-finite}
use Rattle.quantiser.specs.Asymmetric.{half_away, signed_code}
use Rattle.quantiser.proofs.AsymmetricLaws.{at_most_one, code-above, code_below, code-zero}

-- ---- a pattern b of the sign s, j steps of the exponent and the digits d

-- where there is a leading digit
leading : (s : Bool) (b j d : ℕ) → b ≡ cond s 2147483648 0 + j * 8388608 + d → b / 8388608 % 256 ≡ j + 1 → d < 16777216 → j ≤ 126
    → b % 8388608 + 8388608 ≡ d
leading true b j d e f l h = omega arith
leading false b j d e f l h = omega arith

-- ---- the shift of an x that is z binary digits of the smallest values, 2^-149, by the exponent field f: all digits out, or some left

all-out : (w f z : ℕ) → f ≡ z - 23 → z + w ≤ 142 → w ≤ 16 → min (150 - w - f) 31 ≡ 31
all-out w f z e l h = omega arith

some_left : (w f z : ℕ) → f ≡ z - 23 → 142 < z + w → z ≤ 150 → w ≤ 16 → min (150 - w - f) 31 ≡ 173 - w - z
some_left w f z e l k h = omega arith

module _ (s : Bool) (m : ℕ) (e : ℤ) (f : T (fits binary32 (fin s m e))) (h : T (within (fin s m e))) where
  -- |x| in the smallest values
  abbrev n : ℕ
  n = smallest s m e f

  abbrev pattern : ℕ
  pattern = to_bits binary32 (fin s m e)

  few : size n ≤ 150
  few = let l = at_most_one (fin s m e) h in let d = down_pos e in digits-below s m e f 1 (omega arith)

  made : pattern ≡ cond s 2147483648 0 + (size n - 24) * 8388608 + n / 2 ^ (size n - 24)
  unfolding to_bits
  made = refl

  -- |x| * 2 ^ w is n / 2 ^ (149 - w)
  scaled-is : (w : ℕ) → w ≤ 16 → m * up e * 2 ^ w / down e ≡ n / 2 ^ (149 - w)
  scaled-is w W =
      let k : w + (149 - w) ≡ 149 = omega arith in
      div_same (m * up e * 2 ^ w) (down e) n (2 ^ (149 - w)) (down_pos e) (pow_pos (149 - w))
      (mul_assoc (m * up e) (2 ^ w) (2 ^ (149 - w)) ∙ ap (λ (p : ℕ). m * up e * p) (sym (pow-add 2 w (149 - w)) ∙ ap (λ (j : ℕ). 2 ^ j) k) ∙ smallest-exact s m e f)

  -- and so are the digits shifted: both are 0, or the shift is short
  shifted : (w : ℕ) → w ≤ 16 → Dec (size n + w ≤ 142) → (pattern % 8388608 + 8388608) / 2 ^ min (150 - w - pattern / 8388608 % 256) 31 ≡ n / 2 ^ (149 - w)
  shifted w W (yes l) =
      let k : size n ≤ 149 - w = omega arith in
      rw (all-out w (pattern / 8388608 % 256) (size n) (biased-is s m e f) l W)
      (div-eq_of_lt (omega arith) ∙ sym (div-eq_of_lt (lt_of_lt_of_le (size-lt n) (pow_mono k))))
  shifted w W (no l) =
      let k : size n - 24 + (173 - w - size n) ≡ 149 - w = omega (arith, few) in
      let d = leading s pattern (size n - 24) (n / 2 ^ (size n - 24)) made (omega (arith, biased-is s m e f)) (kept-lt 24 n) (omega (arith, few)) in
      rw (some_left w (pattern / 8388608 % 256) (size n) (biased-is s m e f) (lt_of_not-le l) few W, d)
      (shr-shr n (size n - 24) (173 - w - size n) ∙ ap (λ (i : ℕ). n / 2 ^ i) k)

-- ---- the signs

nothing : (s : Bool) (m : ℕ) (e : ℤ) → s ≡ true → lt (fin s m e) zero32 ≡ false → m * up e ≡ 0
unfolding lt of_bits
nothing true m e t h = let l = ltb-false 0 (m * up e * 1 + 0 * down e) h in omega arith
nothing false m e t h = absurd (true≢false (sym t))

not-below : (s : Bool) (m : ℕ) (e : ℤ) → s ≡ false → lt (fin s m e) zero32 ≡ false
unfolding lt of_bits
not-below false m e t = le-ltb (m * up e * 1) (0 * down e) (omega arith)
not-below true m e t = absurd (true≢false t)

-- ---- the laws

-- a pattern is asked of numbers only
pub within-number : (x : Float) → T (within x) → T (not (is_nan x))
within-number x h = finite_number x (within-finite x h)

-- the exponent field
pub field-most : (x : Float) → T (fits binary32 x) → T (within x) → to_bits binary32 x / 8388608 % 256 ≤ 127
field-most nan f h = absurd (unfold within in h)
field-most (inf s) f h = absurd (unfold within in h)
field-most (fin s m e) f h = omega (arith, biased-is s m e f, few s m e f h)

-- the whole part of |x| * 2 ^ w
pub whole_is : (x : Float) (w : ℕ) → T (fits binary32 x) → T (within x) → w ≤ 16
    → (to_bits binary32 x % 8388608 + 8388608) / 2 ^ min (150 - w - to_bits binary32 x / 8388608 % 256) 31 ≡ num x * 2 ^ w / den x
whole_is nan w f h W = absurd (unfold within in h)
whole_is (inf s) w f h W = absurd (unfold within in h)
whole_is (fin s m e) w f h W = shifted s m e f h w W (dec_le _ 142) ∙ sym (scaled-is s m e f h w W)

-- the code where the sign is set, of a size q: x is below zero, or a zero
pub code-set : (x : Float) (w q : ℕ) → T (within x) → q ≡ half_away (num x * 2 ^ (w - 1)) (den x) → true ≡ is_sign_negative x
    → bit_and (2 ^ w - q) (2 ^ w - 1) ≡ signed_code w x
unfolding is_sign_negative
code-set nan w q h e t = absurd (unfold within in h)
code-set (inf s) w q h e t = absurd (unfold within in h)
code-set (fin s m d) w q h e t =
    by_bool (lt (fin s m d) zero32) (code_below (fin s m d) w q e h) (λ z. code-zero (fin s m d) w q e z (nothing s m d (sym t) z))

-- and where it is not
pub code-clear : (x : Float) (w q : ℕ) → T (within x) → q ≡ half_away (num x * 2 ^ (w - 1)) (den x) → false ≡ is_sign_negative x
    → min q (2 ^ (w - 1) - 1) ≡ signed_code w x
unfolding is_sign_negative
code-clear nan w q h e t = absurd (unfold within in h)
code-clear (inf s) w q h e t = absurd (unfold within in h)
code-clear (fin s m d) w q h e t = code-above (fin s m d) w q e (not-below s m d (sym t))
