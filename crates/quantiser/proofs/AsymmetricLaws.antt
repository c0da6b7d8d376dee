-- Laws of two's complement fractions: the rounding by two whole parts, and the code on each side of zero.
use Rattle.std.specs.Prelude.{◌≡◌, true, false, ℕ, suc, ◌+◌, ◌-◌, ◌*◌, ◌/◌, ◌%◌, ◌^◌, ◌≤◌, ◌<◌, min, T, Float}
use Rattle.std.proofs.Common.{sym, ap, ◌∙◌, mul_comm, mul_left_comm, zero-mul, mul-le-mul_right, mul-pos, div-lt_iff_lt-mul, pow-suc, suc-mul, le_of_suc-le-suc, arith, leb→le, lit<}
use Rattle.std.proofs.Math.Nat.{div-eq_of_lt, add-div_right, div-div-eq-div-mul, mod_self, sub-zero, zero-min}
use Rattle.std.specs.Int.Bits.{bit_and, and_mask}
use Rattle.std.specs.Float.{nan, inf, fin}
use Rattle.std.specs.Float.Ieee.{up, down, lt}
use Rattle.std.specs.Float.Ieee.Positive.{num, den, den_pos}
use Rattle.quantiser.specs.Scale.{zero32}
use Rattle.quantiser.specs.Inner.{within}
use Rattle.quantiser.specs.Asymmetric.{half_away, signed_code}

-- ---- a half up, by two whole parts
pub away-is : (a c : ℕ) → 0 < c → (2 * a / c + 1) / 2 ≡ half_away a c
away-is a c C =
    ap (λ (n : ℕ). n / 2) (sym (add-div_right (2 * a) C)) ∙ div-div-eq-div-mul (2 * a + c) c 2 ∙ ap (λ (n : ℕ). (2 * a + c) / n) (mul_comm c 2)

back_one : (w : ℕ) → 1 ≤ w → w ≡ suc (w - 1)
back_one w h = omega arith

twice : (n w : ℕ) → 1 ≤ w → n * 2 ^ w ≡ 2 * (n * 2 ^ (w - 1))
twice n w h = ap (λ (k : ℕ). n * 2 ^ k) (back_one w h) ∙ simp (pow-suc, mul_comm, mul_left_comm)

-- the code's way to round: the whole part t of twice the value, and one, halved
pub half_is : (x : Float) (w t : ℕ) → 1 ≤ w → t ≡ num x * 2 ^ w / den x → (t + 1) / 2 ≡ half_away (num x * 2 ^ (w - 1)) (den x)
half_is x w t h e = ap (λ (n : ℕ). (n + 1) / 2) (e ∙ ap (λ (n : ℕ). n / den x) (twice (num x) w h)) ∙ away-is (num x * 2 ^ (w - 1)) (den x) (den_pos x)

-- ---- |x| is at most 1, so x * 2 ^ v rounded at most 2 ^ v
pub at_most_one : (x : Float) → T (within x) → num x ≤ den x
unfolding within
at_most_one nan h = absurd h
at_most_one (inf s) h = absurd h
at_most_one (fin s m e) h = leb→le (m * up e) (down e) h

pub away-le : (x : Float) (v : ℕ) → T (within x) → half_away (num x * 2 ^ v) (den x) ≤ 2 ^ v
away-le x v h =
    le_of_suc-le-suc ((div-lt_iff_lt-mul (mul-pos (lit< tt) (den_pos x))).1 (go (num x * 2 ^ v) (den x) (2 ^ v) (den_pos x) (mul-le-mul_right (2 ^ v) (at_most_one x h))))
  where
    go : (a d p : ℕ) → 0 < d → a ≤ d * p → 2 * a + d < suc p * (2 * d)
    go a d p D l = let e : suc p * (2 * d) ≡ 2 * (d * p) + 2 * d = simp (suc-mul, mul_comm, mul_left_comm) in omega arith

away-zero : (p d : ℕ) → 0 < d → half_away (0 * p) d ≡ 0
away-zero p d D = rw (zero-mul p) (div-eq_of_lt (omega arith))

-- ---- the codes of a size q

capped : (p q : ℕ) → q ≤ p → min q p ≡ q
capped p q h = omega arith

module _ (m : Float) (w q : ℕ) (e : q ≡ half_away (num m * 2 ^ (w - 1)) (den m)) where
  -- of a value that is not below zero
  pub code-above : lt m zero32 ≡ false → min q (2 ^ (w - 1) - 1) ≡ signed_code w m
  unfolding signed_code
  code-above z = simp (z, ← e)

  -- of a value below zero
  pub code_below : T (within m) → lt m zero32 ≡ true → bit_and (2 ^ w - q) (2 ^ w - 1) ≡ signed_code w m
  unfolding signed_code
  code_below h z =
      let l : q ≤ 2 ^ (w - 1) = rw e (away-le m (w - 1) h) in
      and_mask (2 ^ w - q) w ∙ simp (z, ← e, capped (2 ^ (w - 1)) q l)

  -- of a zero, by the same rule
  pub code-zero : lt m zero32 ≡ false → num m ≡ 0 → bit_and (2 ^ w - q) (2 ^ w - 1) ≡ signed_code w m
  code-zero z n =
      let o : q ≡ 0 = e ∙ rw n (away-zero (2 ^ (w - 1)) (den m) (den_pos m)) in
      let r : (2 ^ w - q) % 2 ^ w ≡ min q (2 ^ (w - 1) - 1) = simp (o, sub-zero, mod_self, zero-min) in
      and_mask (2 ^ w - q) w ∙ r ∙ code-above z
