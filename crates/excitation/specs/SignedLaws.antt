-- How `hold` goes through the operations of A/52 7.2.2: it turns ℤ's difference, maximum and shift into ℕ's.
use Rattle.std.specs.Prelude.{ℕ, zero, suc, ◌+◌, ◌-◌, ◌/◌, max, ◌≤◌, Bool, true, false, cond, ◌≡◌, refl, ltb, ℤ, pos, negsuc, neg_ℤ, ◌+ℤ◌, ◌-ℤ◌}
use Rattle.std.proofs.Common.{sym, ap, ◌∙◌, arith, ltb-true, ltb-false}
use Rattle.std.proofs.Math.Nat.{zero-div}
use Rattle.std.proofs.Math.IntN.{sub_ℕ, +ℤ_assoc, +ℤ_comm, neg_ℤ-+ℤ, neg_ℤ-neg_ℤ}
use Rattle.std.specs.Int.Signed.{shr_z}
use Rattle.excitation.specs.Signed.{int_max, hold}

pub hold-subℕ : (a b : ℕ) → hold (sub_ℕ a b) ≡ a - b
hold-subℕ a b = go (ltb a b) refl
  where
    go : (t : Bool) → ltb a b ≡ t → hold (cond t (negsuc (b - suc a)) (pos (a - b))) ≡ a - b
    go true e = omega (arith, ltb-true a b e)
    go false e = refl

pub hold-sub : (x : ℤ) (d : ℕ) → hold (x -ℤ pos d) ≡ hold x - d
hold-sub (pos a) zero = omega arith
hold-sub (pos a) (suc n) = hold-subℕ a (suc n)
hold-sub (negsuc a) zero = hold-subℕ 0 (suc a) ∙ omega arith
hold-sub (negsuc a) (suc n) = omega arith

pub hold-max : (x y : ℤ) → hold (int_max x y) ≡ max (hold x) (hold y)
hold-max (pos a) (pos b) = go (ltb a b) refl
  where
    go : (t : Bool) → ltb a b ≡ t → hold (cond t (pos b) (pos a)) ≡ max a b
    go true e = omega (arith, ltb-true a b e)
    go false e = omega (arith, ltb-false a b e)
hold-max (pos a) (negsuc b) = omega arith
hold-max (negsuc a) (pos b) = omega arith
hold-max (negsuc a) (negsuc b) = go (ltb b a)
  where
    go : (t : Bool) → hold (cond t (negsuc b) (negsuc a)) ≡ max 0 0
    go true = refl
    go false = refl

pub hold-shr : (z : ℤ) (m : ℕ) → hold (shr_z z m) ≡ hold z / m
hold-shr (pos a) m = refl
hold-shr (negsuc a) m = sym (zero-div m)

-- a sum with a small number, at least a greater one
pub max-lift : (x : ℤ) (k h : ℕ) → k ≤ h → int_max (x +ℤ pos k) (pos h) ≡ pos (max (hold x + k) h)
max-lift (pos a) k h l = go (ltb (a + k) h) refl
  where
    go : (t : Bool) → ltb (a + k) h ≡ t → cond t (pos h) (pos (a + k)) ≡ pos (max (a + k) h)
    go true e = ap pos (omega (arith, ltb-true (a + k) h e))
    go false e = ap pos (omega (arith, ltb-false (a + k) h e))
max-lift (negsuc a) k h l = go (ltb k (suc a))
  where
    up : (n : ℕ) → n ≤ h → (t : Bool) → ltb n h ≡ t → cond t (pos h) (pos n) ≡ pos (max (0 + k) h)
    up n m true e = ap pos (omega arith)
    up n m false e = ap pos (omega (arith, ltb-false n h e))

    go : (t : Bool) → int_max (cond t (negsuc (suc a - suc k)) (pos (k - suc a))) (pos h) ≡ pos (max (0 + k) h)
    go true = ap pos (omega arith)
    go false = up (k - suc a) (omega arith) (ltb (k - suc a) h) refl

-- differences of natural numbers
pub pos-sub : (a b : ℕ) → b ≤ a → pos a -ℤ pos b ≡ pos (a - b)
pos-sub a zero h = ap pos (omega arith)
pos-sub a (suc b) h = go (ltb a (suc b)) refl
  where
    go : (t : Bool) → ltb a (suc b) ≡ t → cond t (negsuc (suc b - suc a)) (pos (a - suc b)) ≡ pos (a - suc b)
    go true e = absurd (omega (arith, ltb-true a (suc b) e))
    go false e = refl

pub neg-diff : (c d : ℕ) → neg_ℤ (pos c -ℤ pos d) ≡ neg_ℤ (pos c) +ℤ pos d
neg-diff c d = neg_ℤ-+ℤ (pos c) (neg_ℤ (pos d)) ∙ ap (λ (z : ℤ). neg_ℤ (pos c) +ℤ z) (neg_ℤ-neg_ℤ (pos d))

pub pos-diff-sub : (a c d : ℕ) → pos a -ℤ (pos c -ℤ pos d) ≡ pos (a + d) -ℤ pos c
pos-diff-sub a c d =
    ap (λ (z : ℤ). pos a +ℤ z) (neg-diff c d ∙ +ℤ_comm (neg_ℤ (pos c)) (pos d)) ∙ sym (+ℤ_assoc (pos a) (pos d) (neg_ℤ (pos c)))

swap : (a b c d : ℤ) → (a +ℤ b) +ℤ (c +ℤ d) ≡ (a +ℤ d) +ℤ (b +ℤ c)
swap a b c d =
    ap (λ (z : ℤ). (a +ℤ b) +ℤ z) (+ℤ_comm c d)
    ∙ +ℤ_assoc a b (d +ℤ c)
    ∙ ap (λ (z : ℤ). a +ℤ z) (sym (+ℤ_assoc b d c) ∙ ap (λ (z : ℤ). z +ℤ c) (+ℤ_comm b d) ∙ +ℤ_assoc d b c)
    ∙ sym (+ℤ_assoc a d (b +ℤ c))

pub diff-sub : (a b c d : ℕ) → (pos a -ℤ pos b) -ℤ (pos c -ℤ pos d) ≡ pos (a + d) -ℤ pos (b + c)
diff-sub a b c d =
    ap (λ (z : ℤ). (pos a -ℤ pos b) +ℤ z) (neg-diff c d)
    ∙ swap (pos a) (neg_ℤ (pos b)) (neg_ℤ (pos c)) (pos d)
    ∙ ap (λ (z : ℤ). pos (a + d) +ℤ z) (sym (neg_ℤ-+ℤ (pos b) (pos c)))
