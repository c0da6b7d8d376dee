-- The value of a group, gathered code by code.
use mathlib.Core.Path.{◌≡◌, refl, sym, ◌∙◌}
use mathlib.Core.List.{List, [], ◌∷◌}
use Prim.Native.Nat.{ℕ, zero, suc, ◌+◌, ◌-◌, ◌*◌, ◌^◌, ◌≤◌, ◌<◌}
use native.Mathlib.Nat.{not-suc-le-zero, pow-zero, pow-succ', pow-le-pow_right, mul-le-mul_left, lt_of_lt_of_le}
use native.Mathlib.Numerals.{add-one}
use native.Mathlib.Omega.{arith}
use lib.ListN.{length, drop, get_or, drop_of_length-le}
use lib.Seq.{drop-cons}
use Rattle.mantissas.proofs.Values.{pow-one}
use Rattle.mantissas.specs.Inner.{group_at, Coded}
use Rattle.mantissas.specs.ReadBack.{of_bap-same, of_bap-other, of_bap-below, group-lt}
use Rattle.mantissas.specs.Digits.{pack, padded}
use Rattle.mantissas.specs.DigitsLaws.{length-padded}
use Rattle.mantissas.specs.CodedLaws.{coded-drop}
use Rattle.mantissas.specs.Stream.{of_bap, group_code}
use Rattle.mantissas.specs.Ranges.{size, levels}
use Rattle.mantissas.specs.RangesLaws.{row}

-- v of the codes before bin j, and n codes from there on, are the group at i
pub record Grouping (bs cs : List ℕ) (b i j n v : ℕ) : Type 0 where
  pub eq : v * levels b ^ n + pack (levels b) (padded n (of_bap b (drop j bs) (drop j cs))) ≡ group_at i bs cs

pub group-start : {bs cs : List ℕ} {b i n : ℕ} → b ≡ get_or bs i 0 → n ≡ size b → Grouping bs cs b i i n 0
unfolding group_at group_code
group-start {bs} {cs} {b} {i} {n} eb en = record { eq = rw (en, eb) (omega arith) }

pad-room : (v m n : ℕ) → 1 ≤ m → 1 ≤ n → v * m ≤ v * m ^ n
pad-room v m n h l = rw pow-one at (mul-le-mul_left v (pow-le-pow_right h l))

pack-none : (m n : ℕ) → pack m (padded n []) ≡ 0
unfolding pack padded
pack-none m zero = refl
pack-none m (suc n) = omega (arith, pack-none m n)

take-one : (m n v c : ℕ) (l : List ℕ) → 1 ≤ n → v * m ^ n + pack m (padded n (c ∷ l)) ≡ (v * m + c) * m ^ (n - 1) + pack m (padded (n - 1) l)
unfolding pack padded
take-one m zero v c l h = absurd (not-suc-le-zero h)
take-one m (suc n) v c l h =
    let e : suc n - 1 ≡ n = omega arith in
    rw (e, pow-succ' m n, length-padded n l) (omega arith)

-- past the end: the codes that are to come are missing
pub group-missing : {bs cs : List ℕ} {b i j n v : ℕ} → Grouping bs cs b i j n v → length bs ≤ j → v * levels b ^ n ≡ group_at i bs cs
unfolding of_bap
group-missing {bs} {cs} {b} {i} {j} {n} {v} g h =
    let z = rw (drop_of_length-le bs h) at g.eq in
    omega (arith, z, pack-none (levels b) n)

-- the next code of the bap
pub group-take : {bs cs : List ℕ} {b i j n v m : ℕ} → Grouping bs cs b i j n v → j < length bs → j < length cs → get_or bs j 0 ≡ b → 1 ≤ n → m ≡ levels b
    → Grouping bs cs b i (j + 1) (n - 1) (v * m + get_or cs j 0)
group-take {bs} {cs} {b} {i} {j} {n} {v} {m} g h l eb k e =
    let f : of_bap b (drop j bs) (drop j cs) ≡ get_or cs j 0 ∷ of_bap b (drop (suc j) bs) (drop (suc j) cs) =
    rw (drop-cons bs j 0 h, drop-cons cs j 0 l, eb, of_bap-same) in
    let z = rw f at g.eq in
    record { eq = rw (e, add-one) (sym (take-one (levels b) n v (get_or cs j 0) _ k) ∙ z) }

-- a bin of another bap
pub group-skip : {bs cs : List ℕ} {b i j n v : ℕ} → Grouping bs cs b i j n v → j < length bs → j < length cs → (get_or bs j 0 ≡ b → ⊥)
    → Grouping bs cs b i (j + 1) n v
group-skip {bs} {cs} {b} {i} {j} {n} {v} g h l ne =
    let f : of_bap b (drop j bs) (drop j cs) ≡ of_bap b (drop (suc j) bs) (drop (suc j) cs) =
    rw (drop-cons bs j 0 h, drop-cons cs j 0 l, of_bap-other b (get_or bs j 0) (get_or cs j 0) (drop (suc j) bs) (drop (suc j) cs) (λ q. ne (sym q))) in
    record { eq = rw (add-one, ← f) g.eq }

pub group-end : {bs cs : List ℕ} {b i j n v : ℕ} → Grouping bs cs b i j n v → n ≡ 0 → v ≡ group_at i bs cs
unfolding padded pack
group-end {bs} {cs} {b} {i} {j} {n} {v} g e = let z = rw (e, pow-zero) at g.eq in omega arith

-- the value fits
pub group-small : {bs cs : List ℕ} (i : ℕ) → Coded bs cs → get_or bs i 0 < 16 → group_at i bs cs < 65536
unfolding group_at
group-small {bs} {cs} i h hb =
    let r = row (get_or bs i 0) hb in
    lt_of_lt_of_le (group-lt (get_or bs i 0) _ r (of_bap-below (get_or bs i 0) (coded-drop i h))) r.whole

pub group-room : {bs cs : List ℕ} {b i j n v m : ℕ} → Grouping bs cs b i j n v → Coded bs cs → b ≡ get_or bs i 0 → b < 16 → 1 ≤ n → m ≡ levels b → v * m < 65536
group-room {bs} {cs} {b} {i} {j} {n} {v} {m} g h eb hb k e =
    rw e (omega (arith, g.eq, pad-room v (levels b) n (row b hb).levels-least k, group-small i h (rw eb at hb)))

-- a code with a field of its own is the field's value
pub group-alone : (bs cs : List ℕ) (i : ℕ) → i < length bs → i < length cs → size (get_or bs i 0) ≡ 1 → get_or cs i 0 ≡ group_at i bs cs
unfolding group_at group_code padded pack
group-alone bs cs i h l one =
    let f : of_bap (get_or bs i 0) (drop i bs) (drop i cs) ≡ get_or cs i 0 ∷ of_bap (get_or bs i 0) (drop (suc i) bs) (drop (suc i) cs) =
    rw (drop-cons bs i 0 h, drop-cons cs i 0 l, of_bap-same) in
    rw (one, f, pow-zero) (omega arith)
