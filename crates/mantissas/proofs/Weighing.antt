-- The weights of bins as the code lists them, and the tally after each bin.
use mathlib.Core.Path.{◌≡◌, ap, ◌∙◌}
use mathlib.Core.List.{List, [], ◌∷◌}
use Prim.Native.Nat.{ℕ, ◌+◌, ◌*◌, ◌^◌, ◌≤◌, ◌<◌}
use native.Mathlib.Nat.{zero-add}
use native.Mathlib.Numerals.{add-one}
use native.Mathlib.Omega.{arith}
use lib.Dec.{eqb, leb, eqb→eq, leb→le}
use lib.ListN.{length, take, get_or}
use lib.Seq.{take-suc, take-length}
use Rattle.mantissas.specs.Calls.{most_entries}
use Rattle.mantissas.specs.Count.{bits_most}
use Rattle.mantissas.specs.DigitsLaws.{below_at}
use Rattle.mantissas.specs.Inner.{Below}
use Rattle.mantissas.specs.Formula.{count, alone}
use Rattle.mantissas.specs.Stream.{bit_count}
use Rattle.mantissas.specs.Tally.{tally_of, tally_bits}
use Rattle.mantissas.specs.TallyLaws.{tally-append, tally-bits}
use Rattle.tables.specs.Computed.{at-index}

abbrev weights : List ℕ
weights = 0 ∷ 65536 ∷ 134217728 ∷ 3 ∷ 274877906944 ∷ 4 ∷ 5 ∷ 6 ∷ 7 ∷ 8 ∷ 9 ∷ 10 ∷ 11 ∷ 12 ∷ 14 ∷ 16 ∷ []

-- each is the tally of one bin
weight-listed : (b : ℕ) → b < 16 → get_or weights b 0 ≡ tally_of (b ∷ [])
unfolding tally_of alone count
weight-listed b h = eqb→eq _ _ (at-index 16 (λ (k : ℕ). eqb (get_or weights k 0) (tally_of (k ∷ []))) tt b h)

-- none is heavier than that of bap 4
weight-most : (b : ℕ) → b < 16 → get_or weights b 0 ≤ 2 ^ 38
weight-most b h = leb→le _ _ (at-index 16 (λ (k : ℕ). leb (get_or weights k 0) (2 ^ 38)) tt b h)

module _ (bs : List ℕ) (i : ℕ) (h : Below 16 bs) (inside : i < length bs) where
  pub bin-most : get_or weights (get_or bs i 0) 0 ≤ 2 ^ 38
  bin-most = weight-most (get_or bs i 0) (below_at h i inside)

  pub weigh-turn : (n sum : ℕ) → sum ≡ n + tally_of (take i bs) → sum + get_or weights (get_or bs i 0) 0 ≡ n + tally_of (take (i + 1) bs)
  weigh-turn n sum q =
      rw (add-one i, take-suc bs i 0 inside, tally-append (take i bs) (get_or bs i 0 ∷ []))
      (omega (arith, weight-listed (get_or bs i 0) (below_at h i inside)))

pub weigh-start : (bs : List ℕ) (n : ℕ) → n ≡ n + tally_of (take 0 bs)
unfolding tally_of alone count
weigh-start bs n = omega arith

pub weigh-end : (bs : List ℕ) (i n sum : ℕ) → i ≡ length bs → sum ≡ n + tally_of (take i bs) → sum ≡ n + tally_of bs
weigh-end bs i n sum q e = e ∙ ap (λ (k : ℕ). n + tally_of (take k bs)) q ∙ ap (λ (l : List ℕ). n + tally_of l) (take-length bs)

-- the whole list, weighed from nothing and read
pub weighed-bits : {bs : List ℕ} (t n : ℕ) → Below 16 bs → length bs ≤ most_entries → t ≡ 0 + tally_of bs → n ≡ tally_bits t
    → (n ≡ bit_count bs) × (n ≤ 16 * length bs)
weighed-bits {bs} t n h l e q =
    let same = q ∙ ap tally_bits (e ∙ zero-add (tally_of bs)) ∙ tally-bits h l in
    (same, omega (arith, same, bits_most h))
