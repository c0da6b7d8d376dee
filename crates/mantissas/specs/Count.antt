-- How many bits a stream has: the baps alone tell it, and it is document 01's formula.
use Rattle.std.specs.Prelude.{◌≡◌, refl, List, [], ◌∷◌, ℕ, zero, suc, ◌+◌, ◌-◌, ◌*◌, ◌/◌, ◌≤◌, ◌<◌, eqb, ltb, length}
use Rattle.std.proofs.Common.{sym, ap₂, ◌∙◌, add-zero, div-one, mul-zero, arith, length-append, eqb-true, eq-eqb, ne_eqb, ltb-true, ltb-false}
use Rattle.std.proofs.Math.Nat.{add-div_right, sub-zero, div-eq_of_lt}
use Rattle.bits.specs.FieldLaws.{length-field}
use Rattle.bits.specs.Tests.{by_bool}
use Rattle.mantissas.specs.CodedLaws.{coded-baps}
use Rattle.mantissas.specs.Inner.{Below, nil, cons, Coded, empty, bin}
use Rattle.mantissas.specs.State.{update}
use Rattle.mantissas.specs.StateLaws.{update_same, update_other}
use Rattle.mantissas.specs.Stream.{of_bap, group_code, field_at, left, fields, stream, cost, count_from, bit_count}
use Rattle.mantissas.specs.Ranges.{size, width, group_sizes}
use Rattle.mantissas.specs.RangesLaws.{row}
use Rattle.tables.specs.Entry.{entry}
use Rattle.tables.specs.Quantizer.{quantization_bits}
use Rattle.mantissas.specs.Formula.{count, alone, sum}

-- the whole formula: ⌈n/3⌉ is (n + 2) / 3, and ⌈n/2⌉ is (n + 1) / 2
abbrev pub formula : List ℕ → ℕ
formula bs = 5 * ((count 1 bs + 2) / 3) + 7 * ((count 2 bs + 2) / 3) + 7 * ((count 4 bs + 1) / 2) + alone bs

pub length-field_at : (b n : ℕ) (l : List ℕ) → length (field_at b n l) ≡ cost b n
unfolding field_at cost
length-field_at b zero l = length-field (width b) (group_code b l)
length-field_at b (suc n) l = refl

pub length_fields : {bs cs : List ℕ} (s : ℕ → ℕ) → Coded bs cs → length (fields s bs cs) ≡ count_from s bs
unfolding fields count_from
length_fields s empty = refl
length_fields s (bin {b} {c} {bs} {cs} hb hc h) =
    rw (length-append, length-field_at b (s b) (c ∷ of_bap b bs cs), length_fields (update s b (left b (s b))) h)

pub length-stream : {bs cs : List ℕ} → Coded bs cs → length (stream bs cs) ≡ bit_count bs
unfolding stream bit_count
length-stream h = length_fields (λ k. 0) h

-- ---- how many they are at most

cost-most : (b n : ℕ) → b < 16 → cost b n ≤ 16
unfolding cost
cost-most b zero h = (row b h).width-most
cost-most b (suc n) h = omega arith

counted-most : (s : ℕ → ℕ) {bs : List ℕ} → Below 16 bs → count_from s bs ≤ 16 * length bs
unfolding count_from
counted-most s nil = omega arith
counted-most s (cons {x = b} hb h) = omega (arith, cost-most b (s b) hb, counted-most (update s b (left b (s b))) h)

-- a bin has at most 16 bits
pub bits_most : {bs : List ℕ} → Below 16 bs → bit_count bs ≤ 16 * length bs
unfolding bit_count
bits_most h = counted-most (λ k. 0) h

-- ---- by baps

sum_same : (f g : ℕ → ℕ) (n : ℕ) → ((k : ℕ) → k < n → f k ≡ g k) → sum f n ≡ sum g n
unfolding sum
sum_same f g zero h = refl
sum_same f g (suc n) h = ap₂ (λ (x y : ℕ). x + y) (sum_same f g n (λ k l. h k (omega arith))) (h n (omega arith))

-- a sum that changes at one place
sum_step : (f g : ℕ → ℕ) (b w n : ℕ) → b < n → f b ≡ w + g b → ((k : ℕ) → (k ≡ b → ⊥) → f k ≡ g k) → sum f n ≡ w + sum g n
unfolding sum
sum_step f g b w zero l e h = absurd (omega arith)
sum_step f g b w (suc n) l e h =
    by_bool (ltb b n)
    (λ t.
    let m = ltb-true b n t in
    let fn : f n ≡ g n = h n (λ z. omega arith) in
    let before : sum f n ≡ w + sum g n = sum_step f g b w n m e h in
    omega arith)
    (λ t.
    let q : b ≡ n = omega (arith, ltb-false b n t) in
    let fn : f n ≡ w + g n = rw q at e in
    let before : sum f n ≡ sum g n = sum_same f g n (λ k m. h k (λ z. omega arith)) in
    omega arith)

-- the bits of the fields that are still to be written, of the bap k
unfoldable part : (ℕ → ℕ) → List ℕ → ℕ → ℕ
part s bs k = width k * ((count k bs + (size k - 1) - s k) / size k)

abbrev Started : (ℕ → ℕ) → Type 0
Started s = (k : ℕ) → k < 16 → s k ≤ size k - 1

count_same : (b : ℕ) (bs : List ℕ) → count b (b ∷ bs) ≡ 1 + count b bs
unfolding count
count_same b bs = rw (eq-eqb b b refl)

count-other : (k b : ℕ) (bs : List ℕ) → (k ≡ b → ⊥) → count k (b ∷ bs) ≡ count k bs
unfolding count
count-other k b bs h = rw (ne_eqb k b h)

left-most : (b n : ℕ) → n ≤ size b - 1 → left b n ≤ size b - 1
unfolding left
left-most b zero h = omega arith
left-most b (suc n) h = omega arith

started-step : (s : ℕ → ℕ) (b : ℕ) → Started s → b < 16 → Started (update s b (left b (s b)))
unfolding update
started-step s b h hb k hk =
    by_bool (eqb k b)
    (λ e. rw (e, eqb-true k b e) (left-most b (s b) (h b hb)))
    (λ e. rw e (h k hk))

part-other : (s : ℕ → ℕ) (b k n : ℕ) (bs : List ℕ) → (k ≡ b → ⊥) → part s (b ∷ bs) k ≡ part (update s b n) bs k
unfolding part
part-other s b k n bs h = rw (count-other k b bs h, update_other s b k n h)

part-here : (b n c : ℕ) → b < 16 → n ≤ size b - 1
    → width b * ((1 + c + (size b - 1) - n) / size b) ≡ cost b n + width b * ((c + (size b - 1) - left b n) / size b)
unfolding cost left
part-here b zero c hb h =
    let r = row b hb in
    let e : 1 + c + (size b - 1) - 0 ≡ c + size b = omega arith in
    let f : c + (size b - 1) - (size b - 1) ≡ c = omega arith in
    rw (e, f, add-div_right c r.size-least) (omega arith)
part-here b (suc n) c hb h =
    let e : 1 + c + (size b - 1) - suc n ≡ c + (size b - 1) - n = omega arith in
    rw e (omega arith)

part_same : (s : ℕ → ℕ) (b : ℕ) (bs : List ℕ) → b < 16 → s b ≤ size b - 1
    → part s (b ∷ bs) b ≡ cost b (s b) + part (update s b (left b (s b))) bs b
unfolding part
part_same s b bs hb h = rw (count_same b bs, update_same s b (left b (s b))) (part-here b (s b) (count b bs) hb h)

sum-none : (s : ℕ → ℕ) (n : ℕ) → n ≤ 16 → Started s → sum (part s []) n ≡ 0
unfolding sum part count
sum-none s zero h st = refl
sum-none s (suc n) h st =
    let r = row n (omega arith) in
    let l = st n (omega arith) in
    let e : (0 + (size n - 1) - s n) / size n ≡ 0 = div-eq_of_lt (omega arith) in
    rw (sum-none s n (omega arith) st, e, mul-zero)

count-from : {bs : List ℕ} (s : ℕ → ℕ) → Below 16 bs → Started s → count_from s bs ≡ sum (part s bs) 16
unfolding count_from
count-from s nil st = sym (sum-none s 16 (omega arith) st)
count-from s (cons {x = b} {l = bs} hb h) st =
    rw (count-from (update s b (left b (s b))) h (started-step s b st hb))
    (sym (sum_step (part s (b ∷ bs)) (part (update s b (left b (s b))) bs) b (cost b (s b)) 16 hb
    (part_same s b bs hb (st b hb)) (λ k ne. part-other s b k (left b (s b)) bs ne)))

all-parts : (bs : List ℕ) → sum (part (λ k. 0) bs) 16 ≡ formula bs
unfolding alone part sum size width group_sizes quantization_bits entry
all-parts bs = simp (sub-zero, add-zero, div-one) (omega arith)

pub bit-count : {bs : List ℕ} → Below 16 bs → bit_count bs ≡ formula bs
unfolding bit_count
bit-count {bs} h = count-from (λ k. 0) h (λ k l. omega arith) ∙ all-parts bs

pub length-stream-formula : {bs cs : List ℕ} → Coded bs cs → length (stream bs cs) ≡ formula bs
length-stream-formula h = length-stream h ∙ bit-count (coded-baps h)
