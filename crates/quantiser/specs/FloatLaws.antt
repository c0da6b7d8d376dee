-- Laws of f32 values: at most 24 digits; a product with a power of two is exact.
use Rattle.std.specs.Prelude.{◌≡◌, refl, Bool, true, false, ◌&&◌, ℕ, zero, suc, ◌+◌, ◌*◌, ◌%◌, ◌^◌, ◌≤◌, ◌<◌, ℤ, pos, T, leb, ltb, eqb}
use Rattle.std.proofs.Common.{sym, ap, ◌∙◌, le_trans, le_of_eq, lt_of_le_of_lt, lt_of_lt_of_le, mul_assoc, mul_comm, mul_left_comm, mul_right_comm, mul-one, one-mul, mul-lt-mul_of_pos_right, lt_of_mul-lt-mul_right, ltb→lt, lt→ltb, lit<, pow-add, pow_pos, pow_mono}
use Rattle.std.specs.Float.{fin, binary32}
use Rattle.std.specs.Float.Ieee.{up, down, unlike, round, mul, of_int, fits}
use Rattle.std.specs.Float.Ieee.Fits.{and_l, and_r, down_pos, round-fits}
use Rattle.std.specs.Float.Ieee.Exact.{HasValue, round_exact}
use Rattle.std.specs.Float.Ieee.Back.{round_whole, whole_unique}
use Rattle.shaping.specs.FloatLaws.{down_le, shift, shift-value}

-- ---- an f32 has at most 24 digits
pub digits_lt : (s : Bool) (m : ℕ) (e : ℤ) → T (fits binary32 (fin s m e)) → m < 2 ^ 24
unfolding fits
digits_lt s zero e t = lit< tt
digits_lt s (suc m) e t =
    ltb→lt (suc m) (2 ^ 24)
    (and_r (eqb (suc m % 2) 1) (ltb (suc m) (2 ^ 24))
    (and_l (eqb (suc m % 2) 1 && ltb (suc m) (2 ^ 24)) (leb (down e) (2 ^ 149))
    (and_l (eqb (suc m % 2) 1 && ltb (suc m) (2 ^ 24) && leb (down e) (2 ^ 149)) (ltb (suc m * up e) (2 ^ 128 * down e)) t)))

pub unlike-false : (s : Bool) → unlike s false ≡ s
unlike-false true = refl
unlike-false false = refl

-- ---- the product with a power of two is exact
pub mul_is : (s : Bool) (m : ℕ) (e : ℤ) (k : ℕ) → mul binary32 (fin s m e) (fin false 1 (pos k)) ≡ round binary32 s (m * up e * 2 ^ k) (down e)
unfolding mul
mul_is s m e k = simp (unlike-false, one-mul, mul-one)

module _ (s : Bool) (m : ℕ) (e : ℤ) (k : ℕ) (f : T (fits binary32 (fin s m e))) (room : m * up e * 2 ^ k < 2 ^ 128 * down e) where
  pub product : m * up e * 2 ^ k * 2 ^ 149 ≡ m * 2 ^ (shift e + k) * down e
  product =
      mul_right_comm (m * up e) (2 ^ k) (2 ^ 149)
      ∙ ap (λ (n : ℕ). n * 2 ^ k) (mul_assoc m (up e) (2 ^ 149) ∙ ap (λ (n : ℕ). m * n) (shift-value e (down_le s m e f)))
      ∙ simp (pow-add, mul_assoc, mul_comm, mul_left_comm)

  fine : m * 2 ^ (shift e + k) < 2 ^ 277
  fine =
      lt_of_mul-lt-mul_right (down e)
      (lt_of_le_of_lt (le_of_eq (sym product))
      (lt_of_lt_of_le (mul-lt-mul_of_pos_right room (pow_pos 149)) (le_of_eq (mul_right_comm (2 ^ 128) (down e) (2 ^ 149)))))

  pub scale-exact : HasValue (mul binary32 (fin s m e) (fin false 1 (pos k))) s (m * up e * 2 ^ k) (down e)
  scale-exact = rw mul_is (round_exact binary32 s (m * up e * 2 ^ k) (down e) m (shift e + k) (down_pos e) (digits_lt s m e f) fine product)

-- ---- 2 ^ k as an f32
pow-fits : (k : ℕ) → k ≤ 24 → T (fits binary32 (fin false 1 (pos k)))
unfolding fits
pow-fits k h = lt→ltb (1 * 2 ^ k) (2 ^ 128 * 1) (lt_of_le_of_lt (le_trans (le_of_eq (one-mul (2 ^ k))) (pow_mono h)) (lit< tt))

pub pow-float : (k : ℕ) → k ≤ 24 → of_int binary32 (pos (2 ^ k)) ≡ fin false 1 (pos k)
unfolding of_int
pow-float k h =
    whole_unique binary32 (round binary32 false (2 ^ k) 1) (fin false 1 (pos k)) false (2 ^ k) (round-fits binary32 false (2 ^ k) 1) (pow-fits k h)
    (round_whole binary32 false (2 ^ k) (pow_mono h)) (refl, simp (one-mul, mul-one))
