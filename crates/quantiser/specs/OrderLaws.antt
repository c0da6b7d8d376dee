-- `lt` is an order on the values that are numbers: a value is a fraction with a sign, or an infinity, and nothing is below a NaN or above it.
use Rattle.std.specs.Prelude.{◌≡◌, refl, Bool, true, false, not, ℕ, zero, suc, ◌+◌, ◌*◌, ◌≤◌, ◌<◌, T, Float}
use Rattle.std.proofs.Common.{sym, true≢false, le_trans, le_of_eq, lt_of_le_of_lt, lt_of_lt_of_le, zero-mul, mul_right_comm, mul-pos, mul-le-mul_right, mul-lt-mul_of_pos_right, lt_of_mul-lt-mul_right, arith, lt-ltb, le-ltb, ltb-true, ltb-false}
use Rattle.std.specs.Float.{nan, inf, fin}
use Rattle.std.specs.Float.Ieee.{up, down, below, lt, is_nan}
use Rattle.std.specs.Float.Ieee.Fits.{down_pos}
use Rattle.bits.specs.Tests.{by_bool}

-- a / p < b / q ≤ c / r
up_to : (a p b q c r : ℕ) → 0 < r → a * q < b * p → b * r ≤ c * q → a * r < c * p
up_to a p b q c r R h l =
    lt_of_mul-lt-mul_right q
    (lt_of_le_of_lt (le_of_eq (mul_right_comm a r q))
    (lt_of_lt_of_le (mul-lt-mul_of_pos_right h R)
    (le_trans (le_of_eq (mul_right_comm b p r)) (le_trans (mul-le-mul_right p l) (le_of_eq (mul_right_comm c q p))))))

-- c / r ≤ b / q < a / p
down_to : (a p b q c r : ℕ) → 0 < r → b * p < a * q → c * q ≤ b * r → c * p < a * r
down_to a p b q c r R h l =
    lt_of_mul-lt-mul_right q
    (lt_of_le_of_lt (le_trans (le_of_eq (mul_right_comm c p q)) (le_trans (mul-le-mul_right p l) (le_of_eq (mul_right_comm b r p))))
    (lt_of_lt_of_le (mul-lt-mul_of_pos_right h R) (le_of_eq (mul_right_comm a q r))))

-- a product above 0 has no factor 0
positive : (a q : ℕ) → 0 < a * q → 0 < a
positive zero q h = absurd (omega (arith, zero-mul q))
positive (suc a) q h = omega arith

-- the same with signs: what is below the second, and the third is not, is below the third
below-past : (s : Bool) (a p : ℕ) (t : Bool) (b q : ℕ) (u : Bool) (c r : ℕ) → 0 < p → 0 < q → 0 < r
    → below s (a * q) t (b * p) ≡ true → below u (c * q) t (b * r) ≡ false → below s (a * r) u (c * p) ≡ true
below-past false a p false b q false c r P Q R h k = lt-ltb _ _ (up_to a p b q c r R (ltb-true _ _ h) (ltb-false _ _ k))
below-past false a p false b q true c r P Q R h k =
    let l = ltb-true (a * q) (b * p) h in
    let o = ltb-false 0 (c * q + b * r) k in
    absurd (omega (arith, mul-pos (positive b p (omega arith)) R))
below-past false a p true b q u c r P Q R h k = absurd (true≢false (sym h))
below-past true a p false b q false c r P Q R h k =
    let l = ltb-true 0 (a * q + b * p) h in
    let o = ltb-false (c * q) (b * r) k in
    lt-ltb 0 (a * r + c * p) (by_size a (omega arith) o)
  where
    by_size : (a : ℕ) → 0 < a * q + b * p → b * r ≤ c * q → 0 < a * r + c * p
    by_size zero l o =
        let x : 0 < b * p = omega (arith, zero-mul q) in
        let y : 0 < c * q = omega (arith, mul-pos (positive b p x) R) in
        omega (arith, mul-pos (positive c q y) P)
    by_size (suc a) l o = let x : 0 < suc a = omega arith in omega (arith, mul-pos x R)
below-past true a p false b q true c r P Q R h k =
    let l = ltb-true 0 (a * q + b * p) h in
    let o = ltb-false 0 (c * q + b * r) k in
    lt-ltb (c * p) (a * r) (by_zero b c l o)
  where
    by_zero : (b c : ℕ) → 0 < a * q + b * p → c * q + b * r ≤ 0 → c * p < a * r
    by_zero zero zero l o = let x : 0 < a * q = omega (arith, zero-mul p) in rw (zero-mul p) (mul-pos (positive a q x) R)
    by_zero zero (suc c) l o = let x : 0 < suc c = omega arith in absurd (omega (arith, mul-pos x Q))
    by_zero (suc b) c l o = let x : 0 < suc b = omega arith in absurd (omega (arith, mul-pos x R))
below-past true a p true b q false c r P Q R h k =
    let l = ltb-true (b * p) (a * q) h in
    lt-ltb 0 (a * r + c * p) (omega (arith, mul-pos (positive a q (omega arith)) R))
below-past true a p true b q true c r P Q R h k = lt-ltb _ _ (down_to a p b q c r R (ltb-true _ _ h) (ltb-false _ _ k))

-- x is below y, and z is not: then x is below z
pub lt-past : (x y z : Float) → lt x y ≡ true → lt z y ≡ false → T (not (is_nan z)) → lt x z ≡ true
unfolding lt is_nan
lt-past nan y z h k n = absurd (true≢false (sym h))
lt-past (inf s) nan z h k n = absurd (true≢false (sym h))
lt-past (inf true) (inf true) z h k n = absurd (true≢false (sym h))
lt-past (inf true) (inf false) nan h k n = absurd n
lt-past (inf true) (inf false) (inf true) h k n = absurd (true≢false k)
lt-past (inf true) (inf false) (inf false) h k n = refl
lt-past (inf true) (inf false) (fin u i j) h k n = absurd (true≢false k)
lt-past (inf false) (inf t) z h k n = absurd (true≢false (sym h))
lt-past (inf s) (fin t o g) nan h k n = absurd n
lt-past (inf s) (fin t o g) (inf true) h k n = absurd (true≢false k)
lt-past (inf true) (fin t o g) (inf false) h k n = refl
lt-past (inf false) (fin t o g) (inf false) h k n = absurd (true≢false (sym h))
lt-past (inf s) (fin t o g) (fin u i j) h k n = h
lt-past (fin s m e) nan z h k n = absurd (true≢false (sym h))
lt-past (fin s m e) (inf true) z h k n = absurd (true≢false (sym h))
lt-past (fin s m e) (inf false) nan h k n = absurd n
lt-past (fin s m e) (inf false) (inf true) h k n = absurd (true≢false k)
lt-past (fin s m e) (inf false) (inf false) h k n = refl
lt-past (fin s m e) (inf false) (fin u i j) h k n = absurd (true≢false k)
lt-past (fin s m e) (fin t o g) nan h k n = absurd n
lt-past (fin s m e) (fin t o g) (inf true) h k n = absurd (true≢false k)
lt-past (fin s m e) (fin t o g) (inf false) h k n = refl
lt-past (fin s m e) (fin t o g) (fin u i j) h k n =
    below-past s (m * up e) (down e) t (o * up g) (down g) u (i * up j) (down j) (down_pos e) (down_pos g) (down_pos j) h k

-- never both ways
pub lt-not-back : (x y : Float) → lt x y ≡ true → lt y x ≡ false
unfolding lt
lt-not-back nan y h = absurd (true≢false (sym h))
lt-not-back (inf s) nan h = refl
lt-not-back (fin s m e) nan h = refl
lt-not-back (inf true) (inf true) h = refl
lt-not-back (inf true) (inf false) h = refl
lt-not-back (inf false) (inf t) h = absurd (true≢false (sym h))
lt-not-back (inf true) (fin t o g) h = refl
lt-not-back (inf false) (fin t o g) h = absurd (true≢false (sym h))
lt-not-back (fin s m e) (inf true) h = absurd (true≢false (sym h))
lt-not-back (fin s m e) (inf false) h = refl
lt-not-back (fin false m e) (fin false o g) h = let l = ltb-true (m * up e * down g) (o * up g * down e) h in le-ltb (o * up g * down e) (m * up e * down g) (omega arith)
lt-not-back (fin false m e) (fin true o g) h = absurd (true≢false (sym h))
lt-not-back (fin true m e) (fin false o g) h = refl
lt-not-back (fin true m e) (fin true o g) h = let l = ltb-true (o * up g * down e) (m * up e * down g) h in le-ltb (m * up e * down g) (o * up g * down e) (omega arith)

-- nothing is below a NaN
lt-number : (x y : Float) → lt x y ≡ true → T (not (is_nan y))
unfolding lt is_nan
lt-number nan y h = absurd (true≢false (sym h))
lt-number (inf s) nan h = absurd (true≢false (sym h))
lt-number (inf s) (inf t) h = tt
lt-number (inf s) (fin t o g) h = tt
lt-number (fin s m e) nan h = absurd (true≢false (sym h))
lt-number (fin s m e) (inf t) h = tt
lt-number (fin s m e) (fin t o g) h = tt

pub lt-through : (x y z : Float) → lt x y ≡ true → lt y z ≡ true → lt x z ≡ true
lt-through x y z h k = lt-past x y z h (lt-not-back y z k) (lt-number y z k)

pub lt-self : (x : Float) → lt x x ≡ false
lt-self x = by_bool (lt x x) (λ t. lt-not-back x x t) (λ t. t)

-- what is not below +∞ is below nothing
pub lt-nothing : (x y : Float) → lt x (inf false) ≡ false → lt x y ≡ false
unfolding lt
lt-nothing nan y h = refl
lt-nothing (inf true) y h = absurd (true≢false h)
lt-nothing (inf false) nan h = refl
lt-nothing (inf false) (inf t) h = refl
lt-nothing (inf false) (fin t o g) h = refl
lt-nothing (fin s m e) y h = absurd (true≢false h)
