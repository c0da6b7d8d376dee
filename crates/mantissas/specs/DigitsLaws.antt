-- Laws of digits: a number is below the power of its base, and the digits of a number with these digits are these.
use Rattle.std.specs.Prelude.{◌≡◌, refl, List, [], ◌∷◌, ℕ, zero, suc, ◌%◌, ◌^◌, ◌<◌, length, get_or}
use Rattle.std.proofs.Common.{ap, not-suc-le-zero, le_of_suc-le-suc, div-lt_iff_lt-mul, mod-lt, arith}
use Rattle.std.proofs.Math.Nat.{pow-zero, pow-succ', one-le-pow}
use Rattle.std.proofs.Math.Arith.{digits_lt, digits_div, digits_mod}
use Rattle.mantissas.specs.Digits.{pack, digits, padded}
use Rattle.mantissas.specs.Inner.{Below, nil, cons}

-- entries below a bound, by index
pub below_at : {m : ℕ} {l : List ℕ} → Below m l → (i : ℕ) → i < length l → get_or l i 0 < m
below_at nil i h = absurd (not-suc-le-zero h)
below_at (cons hx hl) zero h = hx
below_at (cons hx hl) (suc i) h = below_at hl i (le_of_suc-le-suc h)

pub below_all : {m : ℕ} (l : List ℕ) → ((i : ℕ) → i < length l → get_or l i 0 < m) → Below m l
below_all [] h = nil
below_all (x ∷ l) h = cons (h 0 (omega arith)) (below_all l (λ i b. h (suc i) (omega arith)))

pub length-padded : (n : ℕ) (l : List ℕ) → length (padded n l) ≡ n
unfolding padded
length-padded zero l = refl
length-padded (suc n) [] = ap suc (length-padded n [])
length-padded (suc n) (x ∷ l) = ap suc (length-padded n l)

pub padded-below : {m : ℕ} (n : ℕ) {l : List ℕ} → 0 < m → Below m l → Below m (padded n l)
unfolding padded
padded-below zero h b = nil
padded-below (suc n) h nil = cons h (padded-below n h nil)
padded-below (suc n) h (cons hx hl) = cons hx (padded-below n h hl)

pub pack-lt : {m : ℕ} {l : List ℕ} → Below m l → pack m l < m ^ length l
unfolding pack
pack-lt {m} nil = rw (pow-zero m) (omega arith)
pack-lt {m} (cons {x} {l} hx hl) = rw (pow-succ' m (length l)) (digits_lt hx (pack-lt hl))

-- the digits of a number with these digits are these
pub digits-pack : {m : ℕ} {l : List ℕ} → Below m l → digits m (length l) (pack m l) ≡ l
unfolding digits pack
digits-pack nil = refl
digits-pack {m} (cons {x} {l} hx hl) =
    rw (digits_div x (pack-lt hl), digits_mod x (pack-lt hl), digits-pack hl)

-- the digits of a number that has no more of them are below the base
pub digits-below : (m n v : ℕ) → 0 < m → v < m ^ n → Below m (digits m n v)
unfolding digits
digits-below m zero v hm h = nil
digits-below m (suc n) v hm h =
    let q : 0 < m ^ n = one-le-pow n m hm in
    cons ((div-lt_iff_lt-mul q).1 (rw (pow-succ' m n) at h)) (digits-below m n (v % m ^ n) hm (mod-lt v q))
