-- Quotients of whole numbers as f32, up to 1 in size: their sign, their range, and that a quotient by a power of two up to 2^24 is exact. Such an
-- f32 is 0 or at least 2^-24, so its last digit is at least 2^-48; 24 places further down is still far above 2^-149, the last place that an
-- f32 can have.
use Rattle.std.specs.Prelude.{◌≡◌, ◌⊎◌, Bool, cond, ℕ, zero, suc, ◌+◌, ◌-◌, ◌*◌, ◌/◌, ◌^◌, ◌≤◌, ◌<◌, ℤ, pos, negsuc, T, ltb, Float}
use Rattle.std.proofs.Math.Path.{refl, sym, ap}
use Rattle.std.proofs.Common.{ap₂, ◌∙◌, subst, inr, true≢false, le_trans, le_of_eq, lt_of_le_of_lt, lt_of_lt_of_le, not-le_of_lt, mul_assoc, mul_comm, mul_left_comm, mul_right_comm, mul-one, one-mul, mul-pos, mul-le-mul_left, mul-le-mul_right, mul-lt-mul_of_pos_right, lt_of_mul-lt-mul_right, le_of_mul-le-mul_right, arith, ne_eqb, lit<, pow-add, pow_pos, pow_mono}
use Rattle.std.proofs.Math.Logic.{inl}
use Rattle.std.proofs.Math.Bool.{true, false}
use Rattle.std.proofs.Math.Decide.{dec_le}
use Rattle.std.proofs.Math.Nat.{zero-mul, eq_of_mul-eq-mul_right}
use Rattle.std.specs.Float.{nan, inf, fin}
use Rattle.std.specs.Float.Ieee.{binary32, up, down, unlike, units, odd, round, neg, div, mul, lt, le, of_int, of_bits, to_bits, fits}
use Rattle.std.specs.Float.Ieee.Back.{round_whole}
use Rattle.std.specs.Float.Ieee.Bits.{of_bits-to_bits, of_bits-fits}
use Rattle.std.specs.Float.Ieee.Exact.{HasValue, round_exact}
use Rattle.std.specs.Float.Ieee.Fits.{up_pos, down_pos, round_is, round-fits, neg-fits, div-fits, mul-fits, cond-fits}
use Rattle.std.specs.Float.Ieee.Nearest.{div_same}
use Rattle.std.specs.Float.Ieee.Order.{round_mono}
use Rattle.std.specs.Float.Ieee.Positive.{num, den, positive, den_pos, le→cross, between}
use Rattle.std.specs.Float.Ieee.Scale.{round_same, finite}
use Rattle.bits.specs.Tests.{by_bool}
use Rattle.shaping.specs.FloatLaws.{down_le, in-range, shift, shift-value}
use Rattle.quantiser.specs.FloatLaws.{digits_lt, unlike-false, pow-float}
use Rattle.quantiser.specs.Scale.{held, scaled, zero32, one32, minus_one32}
use Rattle.quantiser.specs.ScaleLaws.{scaled_exact}
use Rattle.reconstruct.specs.Value.{unscaled}

-- ---- a value as a fraction

-- of the same size
pub rescaled : (x : Float) (s : Bool) (a c b d : ℕ) → 0 < c → b * c ≡ a * d → HasValue x s a c → HasValue x s b d
rescaled nan s a c b d p h v = v
rescaled (inf t) s a c b d p h v = v
rescaled (fin t m e) s a c b d p h v = (
  v.0,
  eq_of_mul-eq-mul_right c p (m * up e * d) (b * down e)
      (mul_right_comm (m * up e) d c
      ∙ ap (λ (x : ℕ). x * d) v.1
      ∙ mul_right_comm a (down e) d
      ∙ ap (λ (x : ℕ). x * down e) (sym h)
      ∙ mul_right_comm b c (down e)),
)

same-pattern : (s : Bool) (m n : ℕ) (e d : ℤ) → m * up e * 2 ^ 149 / down e ≡ n * up d * 2 ^ 149 / down d → to_bits binary32 (fin s m e) ≡ to_bits binary32 (fin s n d)
unfolding to_bits
same-pattern s m n e d h = rw h

-- an f32 is its sign and its size
pub value-unique : (x y : Float) (s : Bool) (a c : ℕ) → 0 < c → T (fits binary32 x) → T (fits binary32 y) → HasValue x s a c → HasValue y s a c → x ≡ y
value-unique nan y s a c C f g v w = absurd v
value-unique (inf t) y s a c C f g v w = absurd v
value-unique (fin t m e) nan s a c C f g v w = absurd w
value-unique (fin t m e) (inf u) s a c C f g v w = absurd w
value-unique (fin t m e) (fin u n d) s a c C f g v w =
    sym (of_bits-to_bits binary32 (fin t m e) f)
    ∙ ap (of_bits binary32) (same-pattern t m n e d same ∙ ap (λ (b : Bool). to_bits binary32 (fin b n d)) (v.0 ∙ sym w.0))
    ∙ of_bits-to_bits binary32 (fin u n d) g
  where
    cross : m * up e * down d ≡ n * up d * down e
    cross =
        eq_of_mul-eq-mul_right c C (m * up e * down d) (n * up d * down e)
        (mul_right_comm (m * up e) (down d) c
        ∙ ap (λ (x : ℕ). x * down d) v.1
        ∙ mul_right_comm a (down e) (down d)
        ∙ ap (λ (x : ℕ). x * down e) (sym w.1)
        ∙ mul_right_comm (n * up d) c (down e))

    same : m * up e * 2 ^ 149 / down e ≡ n * up d * 2 ^ 149 / down d
    same =
        div_same (m * up e * 2 ^ 149) (down e) (n * up d * 2 ^ 149) (down d) (down_pos e) (down_pos d)
        (mul_right_comm (m * up e) (2 ^ 149) (down d) ∙ ap (λ (x : ℕ). x * 2 ^ 149) cross ∙ mul_right_comm (n * up d) (down e) (2 ^ 149))

-- ---- the sign of a rounded fraction

units-neg : (q k : ℕ) → neg (units binary32 false q k) ≡ units binary32 true q k
unfolding units
units-neg q k = go (ltb (q * 2 ^ k) (2 ^ 277)) q
  where
    go : (b : Bool) (q : ℕ) → neg (cond b (odd 25 false q k 149) (inf false)) ≡ cond b (odd 25 true q k 149) (inf true)
    go true zero = unfold odd neg in refl
    go true (suc q) = unfold odd neg in refl
    go false q = unfold neg in refl

pub round-neg : (a c : ℕ) → neg (round binary32 false a c) ≡ round binary32 true a c
round-neg a c = ap neg (round_is binary32 false a c) ∙ units-neg _ _ ∙ sym (round_is binary32 true a c)

-- ---- a quotient

div_is : (s t : Bool) (m n : ℕ) (e d : ℤ) → (n ≡ 0 → ⊥) → div binary32 (fin s m e) (fin t n d) ≡ round binary32 (unlike s t) (m * up e * down d) (n * up d * down e)
unfolding div
div_is s t m n e d h = rw (ne_eqb n 0 h)

not-zero : (n b : ℕ) (d : ℤ) → 0 < b → n * up d * 1 ≡ b * down d → n ≡ 0 → ⊥
not-zero n b d B h z =
    let l : 0 < b * down d = mul-pos B (down_pos d) in
    let k : n * up d * 1 ≡ 0 = ap (λ (x : ℕ). x * up d * 1) z ∙ ap (λ (x : ℕ). x * 1) (zero-mul (up d)) in
    omega arith

-- of two whole numbers that an f32 holds
div-whole : (x y : Float) (a b : ℕ) → 0 < b → HasValue x false a 1 → HasValue y false b 1 → div binary32 x y ≡ round binary32 false a b
div-whole nan y a b B v w = absurd v
div-whole (inf s) y a b B v w = absurd v
div-whole (fin s m e) nan a b B v w = absurd w
div-whole (fin s m e) (inf t) a b B v w = absurd w
div-whole (fin s m e) (fin t n d) a b B v w =
    div_is s t m n e d z
    ∙ ap₂ (λ (p q : Bool). round binary32 (unlike p q) (m * up e * down d) (n * up d * down e)) v.0 w.0
    ∙ round_same binary32 false (m * up e * down d) (n * up d * down e) a b (mul-pos below (down_pos e)) B cross
  where
    z : n ≡ 0 → ⊥
    z = not-zero n b d B w.1

    lower : n * up d ≡ b * down d
    lower = sym (mul-one (n * up d)) ∙ w.1

    upper : m * up e ≡ a * down e
    upper = sym (mul-one (m * up e)) ∙ v.1

    below : 0 < n * up d
    below = rw lower (mul-pos B (down_pos d))

    cross : m * up e * down d * b ≡ a * (n * up d * down e)
    cross = rw (upper, lower) (simp (mul_assoc, mul_comm, mul_left_comm))

pub quotient_is : (a b : ℕ) → a ≤ 2 ^ 24 → 0 < b → b ≤ 2 ^ 24 → div binary32 (of_int binary32 (pos a)) (of_int binary32 (pos b)) ≡ round binary32 false a b
unfolding of_int
quotient_is a b h B k = div-whole (round binary32 false a 1) (round binary32 false b 1) a b B (round_whole binary32 false a h) (round_whole binary32 false b k)

-- ---- a fraction of at most 1: its f32 is 0, or 2^-24 at least, and at most 1

-- the f32 of a fraction with the sign s and n above the line: of that sign, at most 1 in size, and 0 with n or far from the last place
pub record Held (s : Bool) (n : ℕ) (x : Float) : Type 0 where
  pub own : HasValue x s (num x) (den x)
  pub fit : T (fits binary32 x)
  pub most : num x ≤ den x
  pub least : ((n ≡ 0) × (num x ≡ 0)) ⊎ (den x ≤ num x * 2 ^ 24)

round-zero : (s : Bool) (c : ℕ) → 0 < c → round binary32 s 0 c ≡ fin s 0 (pos 0)
round-zero s c C = round_same binary32 s 0 c 0 1 C (lit< tt) (zero-mul 1 ∙ sym (zero-mul c)) ∙ (unfold round in refl)

own-positive : (x : Float) → T (positive x) → HasValue x false (num x) (den x)
own-positive nan p = absurd p
own-positive (inf s) p = absurd p
own-positive (fin true m e) p = absurd p
own-positive (fin false m e) p = (refl, refl)

-- 2^-24 and 1
abbrev lo : Float
lo = fin false 1 (negsuc 23)

abbrev hi : Float
hi = fin false 1 (pos 0)

lo-is : round binary32 false 1 (2 ^ 24) ≡ lo
unfolding round
lo-is = refl

hi-is : round binary32 false 1 1 ≡ hi
unfolding round
hi-is = refl

held-positive : (n c : ℕ) → 0 < n → n ≤ c → c ≤ 2 ^ 24 → Held false n (round binary32 false n c)
held-positive n c N h C =
    let x = round binary32 false n c in
    let a : T (le lo x) =
    rw lo-is at (round_mono binary32 1 (2 ^ 24) n c (lit< tt) (omega arith) (le_trans (le_of_eq (one-mul c)) (le_trans C (le_trans (le_of_eq (sym (one-mul (2 ^ 24)))) (mul-le-mul_right (2 ^ 24) N))))) in
    let b : T (le x hi) = rw hi-is at (round_mono binary32 n c 1 1 (omega arith) (lit< tt) (omega arith)) in
    let p : T (positive x) = between lo x hi tt tt a b in
    let u : 1 * den x ≤ num x * 2 ^ 24 = le→cross lo x tt p a in
    let w : num x * 1 ≤ 1 * den x = le→cross x hi p tt b in
    record { own = own-positive x p; fit = round-fits binary32 false n c; most = omega arith; least = inr (omega arith) }

held-zero : (s : Bool) → Held s 0 (fin s 0 (pos 0))
held-zero s = record { own = (refl, refl); fit = unfold fits in tt; most = omega arith; least = inl (refl, refl) }

held-neg : (n : ℕ) (x : Float) → Held false n x → Held true n (neg x)
unfolding neg
held-neg n nan h = absurd h.own
held-neg n (inf s) h = absurd h.own
held-neg n (fin true m e) h = absurd (true≢false h.own.0)
held-neg n (fin false m e) h = record { own = (refl, refl); fit = neg-fits binary32 (fin false m e) h.fit; most = h.most; least = h.least }

pub held-quotient : (s : Bool) (n c : ℕ) → 0 < c → n ≤ c → c ≤ 2 ^ 24 → Held s n (round binary32 s n c)
held-quotient s zero c C h l = rw (round-zero s c C) (held-zero s)
held-quotient false (suc n) c C h l = held-positive (suc n) c (omega arith) h l
held-quotient true (suc n) c C h l = rw (← round-neg (suc n) c) (held-neg (suc n) (round binary32 false (suc n) c) (held-positive (suc n) c (omega arith) h l))

-- ---- over 2^k: exact

div_power : (t : Bool) (p k : ℕ) (d : ℤ) → div binary32 (fin t p d) (fin false 1 (pos k)) ≡ round binary32 t (p * up d) (down d * 2 ^ k)
div_power t p k d = div_is t false p 1 d (pos k) (λ z. omega arith) ∙ simp (unlike-false, one-mul, mul-one, mul_comm)

-- 0 over it is 0
pub unscaled-zero : (k : ℕ) → k ≤ 24 → unscaled (round binary32 false 0 1) k ≡ zero32
unfolding unscaled
unscaled-zero k K =
    rw (round-zero false 1 (lit< tt), pow-float k K, div_power false 0 k (pos 0), round-zero false (1 * 2 ^ k) (mul-pos (lit< tt) (pow_pos k))) (unfold of_bits in refl)

small_power : (k : ℕ) → 2 ^ suc k < 2 ^ 48 → suc k < 48
small_power k h = go (dec_le 48 (suc k))
  where
    go : Dec (48 ≤ suc k) → suc k < 48
    go (yes l) = absurd (not-le_of_lt h (pow_mono l))
    go (no l) = omega arith

-- 24 places lower there is still room
room : (p : ℕ) (d : ℤ) → p < 2 ^ 24 → down d ≤ p * up d * 2 ^ 24 → 24 ≤ shift d
room p (pos k) h l = omega arith
room p (negsuc k) h l =
    let a : p * 1 * 2 ^ 24 < 2 ^ 24 * 2 ^ 24 = lt_of_le_of_lt (le_of_eq (ap (λ (x : ℕ). x * 2 ^ 24) (mul-one p))) (mul-lt-mul_of_pos_right h (pow_pos 24)) in
    let b : suc k < 48 = small_power k (lt_of_le_of_lt l (lt_of_lt_of_le a (le_of_eq (sym (pow-add 2 24 24))))) in
    omega arith

back : (a k : ℕ) → k ≤ a → a ≡ a - k + k
back a k h = omega arith

lower : (t : Bool) (p : ℕ) (d : ℤ) (k : ℕ) → T (fits binary32 (fin t p d)) → k ≤ shift d
    → HasValue (round binary32 t (p * up d) (down d * 2 ^ k)) t (p * up d) (down d * 2 ^ k)
lower t p d k f h = round_exact binary32 t (p * up d) (down d * 2 ^ k) p (shift d - k) (mul-pos (down_pos d) (pow_pos k)) (digits_lt t p d f) fine product
  where
    split : 2 ^ shift d ≡ 2 ^ (shift d - k) * 2 ^ k
    split = ap (λ (x : ℕ). 2 ^ x) (back (shift d) k h) ∙ pow-add 2 (shift d - k) k

    product : p * up d * 2 ^ 149 ≡ p * 2 ^ (shift d - k) * (down d * 2 ^ k)
    product =
        mul_assoc p (up d) (2 ^ 149)
        ∙ ap (λ (x : ℕ). p * x) (shift-value d (down_le t p d f) ∙ ap (λ (x : ℕ). x * down d) split)
        ∙ simp (mul_assoc, mul_comm, mul_left_comm)

    fine : p * 2 ^ (shift d - k) < 2 ^ 277
    fine =
        lt_of_mul-lt-mul_right (down d * 2 ^ k)
        (lt_of_le_of_lt (le_of_eq (sym product))
        (lt_of_lt_of_le (mul-lt-mul_of_pos_right (in-range t p d f) (pow_pos 149))
        (le_trans (le_of_eq (mul_right_comm (2 ^ 128) (down d) (2 ^ 149) ∙ sym (mul-one (2 ^ 277 * down d))))
        (le_trans (mul-le-mul_left (2 ^ 277 * down d) (pow_pos k)) (le_of_eq (mul_assoc (2 ^ 277) (down d) (2 ^ k)))))))

-- exactly x × 2^-k
pub unscaled-exact : (s : Bool) (n : ℕ) (x : Float) (k : ℕ) → Held s n x → k ≤ 24 → HasValue (unscaled x k) s (num x) (den x * 2 ^ k)
unfolding unscaled
unscaled-exact s n nan k h K = absurd h.own
unscaled-exact s n (inf t) k h K = absurd h.own
unscaled-exact s n (fin t zero e) k h K =
    rw (pow-float k K, div_power t 0 k e, zero-mul, round-zero t (down e * 2 ^ k) (mul-pos (down_pos e) (pow_pos k))) (h.own.0, simp zero-mul)
unscaled-exact s n (fin t (suc m) e) k h K =
    rw (pow-float k K, div_power t (suc m) k e, ← h.own.0) (lower t (suc m) e k h.fit (le_trans K (room (suc m) e (digits_lt t (suc m) e h.fit) (far h.least))))
  where
    far : ((n ≡ 0) × (suc m * up e ≡ 0)) ⊎ (down e ≤ suc m * up e * 2 ^ 24) → down e ≤ suc m * up e * 2 ^ 24
    far (inl z) = absurd (let l : 0 < suc m * up e = mul-pos (omega arith) (up_pos e) in omega (arith, z.1))
    far (inr l) = l

pub value-finite : (x : Float) (s : Bool) (a c : ℕ) → HasValue x s a c → T (finite x)
value-finite nan s a c v = absurd v
value-finite (inf t) s a c v = absurd v
value-finite (fin t m e) s a c v = tt

-- a / (c × p), where a is at most c, is at most 1 / p
pub value-most : (x : Float) (s : Bool) (a c p : ℕ) → 0 < c → a ≤ c → HasValue x s a (c * p) → num x * p ≤ den x
value-most nan s a c p C h v = absurd v
value-most (inf t) s a c p C h v = absurd v
value-most (fin t m e) s a c p C h v =
    le_of_mul-le-mul_right
    (le_trans (le_of_eq (mul_right_comm (m * up e) p c ∙ mul_assoc (m * up e) c p ∙ v.1)) (le_trans (mul-le-mul_right (down e) h) (le_of_eq (mul_comm c (down e))))) C

-- ---- and back: scaled by 2^k it is x again

scaled_fits : (y : Float) (k : ℕ) → T (fits binary32 (scaled y k))
unfolding scaled held
scaled_fits y k =
    let z = mul binary32 y (of_int binary32 (pos (2 ^ k))) in
    cond-fits binary32 (lt z minus_one32) minus_one32 _ (of_bits-fits binary32 0xbf80_0000)
    (cond-fits binary32 (lt one32 z) one32 z (of_bits-fits binary32 0x3f80_0000) (mul-fits binary32 y (of_int binary32 (pos (2 ^ k)))))

scaled_value : (y : Float) (s : Bool) (a c k : ℕ) → T (fits binary32 y) → k ≤ 24 → 0 < c → a ≤ c → HasValue y s a (c * 2 ^ k) → HasValue (scaled y k) s a c
scaled_value nan s a c k f K C h v = absurd v
scaled_value (inf t) s a c k f K C h v = absurd v
scaled_value (fin t m e) s a c k f K C h v =
    rescaled (scaled (fin t m e) k) s (m * up e * 2 ^ k) (down e) a c (down_pos e) (sym (mul_right_comm (m * up e) (2 ^ k) c ∙ mul_assoc (m * up e) c (2 ^ k) ∙ v.1))
    (subst (λ (b : Bool). HasValue (scaled (fin t m e) k) b (m * up e * 2 ^ k) (down e)) v.0 (scaled_exact t m e k f K (value-most (fin t m e) s a c (2 ^ k) C h v)))

pub scaled-unscaled : (s : Bool) (n : ℕ) (x : Float) (k : ℕ) → Held s n x → k ≤ 24 → scaled (unscaled x k) k ≡ x
scaled-unscaled s n x k h K =
    value-unique (scaled (unscaled x k) k) x s (num x) (den x) (den_pos x) (scaled_fits (unscaled x k) k) h.fit
    (scaled_value (unscaled x k) s (num x) (den x) k (unfold unscaled in div-fits binary32 x (of_int binary32 (pos (2 ^ k)))) K (den_pos x) h.most (unscaled-exact s n x k h K)) h.own

-- what is not 0 above the line is not 0
pub held-some : (s : Bool) (n : ℕ) (x : Float) → Held s n x → 0 < n → 0 < num x
held-some s n x h N = by-least h.least
  where
    by-least : ((n ≡ 0) × (num x ≡ 0)) ⊎ (den x ≤ num x * 2 ^ 24) → 0 < num x
    by-least (inl z) = absurd (omega (arith, z.0))
    by-least (inr l) = let d = den_pos x in omega arith

-- the only f32 of size 0 that is not below zero
pub zero_is : (x : Float) (s : Bool) (a c : ℕ) → T (fits binary32 x) → 0 < c → HasValue x s a c → (s ≡ true → 0 < a) → num x ≡ 0 → x ≡ zero32
zero_is nan s a c f C v p z = absurd v
zero_is (inf t) s a c f C v p z = absurd v
zero_is (fin t m e) s a c f C v p z = by_bool s (λ y. absurd (omega (arith, p y, none))) (λ y. value-unique (fin t m e) zero32 s a c C f (of_bits-fits binary32 0) v (unfold of_bits in (sym y, rw none (simp zero-mul))))
  where
    none : a ≡ 0
    none =
        eq_of_mul-eq-mul_right (down e) (down_pos e) a 0
        (sym v.1 ∙ ap (λ (x : ℕ). x * c) z ∙ zero-mul c ∙ sym (zero-mul (down e)))
