-- Laws of a tally: it adds up over parts and bins, and its bits are those of the stream.
use Rattle.std.specs.Prelude.{◌≡◌, List, [], ◌∷◌, ◌++◌, ℕ, ◌+◌, ◌*◌, ◌/◌, ◌%◌, ◌^◌, ◌≤◌, ◌<◌, eqb, leb, length}
use Rattle.std.proofs.Common.{sym, ◌∙◌, leb→le}
use native.Mathlib.Omega.{arith}
use Rattle.bits.specs.Tests.{by_bool}
use Rattle.mantissas.specs.Calls.{most_entries}
use Rattle.mantissas.specs.Count.{bit-count}
use Rattle.mantissas.specs.Inner.{Below, nil, cons}
use Rattle.mantissas.specs.Formula.{count, alone}
use Rattle.mantissas.specs.Stream.{bit_count}
use Rattle.mantissas.specs.Tally.{tally_of, tally_bits}
use Rattle.tables.specs.Computed.{at-index}

-- ---- parts

pub count-append : (k : ℕ) (xs ys : List ℕ) → count k (xs ++ ys) ≡ count k xs + count k ys
unfolding count
count-append k [] ys = omega arith
count-append k (x ∷ xs) ys = by_bool (eqb k x) (λ e. rw (e, count-append k xs ys) (omega arith)) (λ e. rw (e, count-append k xs ys))

alone-append : (xs ys : List ℕ) → alone (xs ++ ys) ≡ alone xs + alone ys
unfolding alone
alone-append xs ys = simp count-append (omega arith)

pub tally-append : (xs ys : List ℕ) → tally_of (xs ++ ys) ≡ tally_of xs + tally_of ys
unfolding tally_of
tally-append xs ys = rw (alone-append xs ys, count-append 1 xs ys, count-append 2 xs ys, count-append 4 xs ys) (omega arith)

-- ---- how much they are at most

width-most : (b : ℕ) → b < 16 → alone (b ∷ []) ≤ 16
unfolding alone count
width-most b h = leb→le _ _ (at-index 16 (λ (k : ℕ). leb (alone (k ∷ [])) 16) tt b h)

alone-most : {bs : List ℕ} → Below 16 bs → alone bs ≤ 16 * length bs
alone-most nil = unfold alone count in omega arith
alone-most (cons {x = b} {l = bs} hb h) = omega (arith, alone-append (b ∷ []) bs, width-most b hb, alone-most h)

count_most : (k : ℕ) (bs : List ℕ) → count k bs ≤ length bs
unfolding count
count_most k [] = omega arith
count_most k (b ∷ bs) = by_bool (eqb k b) (λ e. rw e (omega (arith, count_most k bs))) (λ e. rw e (omega (arith, count_most k bs)))

-- ---- the sums are apart

apart : (a o w f : ℕ) → a < 65536 → o < 2048 → w < 2048
    → tally_bits (a + 2 ^ 16 * o + 2 ^ 27 * w + 2 ^ 38 * f) ≡ 5 * ((o + 2) / 3) + 7 * ((w + 2) / 3) + 7 * ((f + 1) / 2) + a
unfolding tally_bits
apart a o w f ha ho hw =
    let t = a + 2 ^ 16 * o + 2 ^ 27 * w + 2 ^ 38 * f in
    let ea : t % 2 ^ 16 ≡ a = omega arith in
    let no : t / 2 ^ 16 ≡ o + 2048 * (w + 2048 * f) = omega arith in
    let eo : t / 2 ^ 16 % 2048 ≡ o = rw no (omega arith) in
    let nw : t / 2 ^ 27 ≡ w + 2048 * f = omega arith in
    let ew : t / 2 ^ 27 % 2048 ≡ w = rw nw (omega arith) in
    let ef : t / 2 ^ 38 ≡ f = omega arith in
    rw (ea, eo, ew, ef) (omega arith)

pub tally-bits : {bs : List ℕ} → Below 16 bs → length bs ≤ most_entries → tally_bits (tally_of bs) ≡ bit_count bs
unfolding tally_of
tally-bits {bs} h l =
    apart (alone bs) (count 1 bs) (count 2 bs) (count 4 bs)
    (omega (arith, alone-most h)) (omega (arith, count_most 1 bs)) (omega (arith, count_most 2 bs))
    ∙ sym (bit-count h)
