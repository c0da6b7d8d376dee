-- How the records of a sheet are counted off, one at a time.
use mathlib.Core.Path.{◌≡◌, refl, sym, ap, ◌∙◌}
use mathlib.Core.List.{List, [], ◌∷◌}
use mathlib.Core.Bool.{Bool, ◌&&◌, and_assoc}
use Prim.Native.Nat.{ℕ, zero, suc, ◌+◌, ◌-◌, ◌≤◌, ◌<◌}
use native.Mathlib.Omega.{arith}
use lib.ListN.{length, take, drop, drop_of_length-le}
use lib.Seq.{take_all, drop-length}
use lib.Dec.{leb, eqb}
use Rattle.std.specs.List.{list_all, filter}
use Rattle.std.specs.Prelude.{min}
use Rattle.std.proofs.Math.Decide.{dec_lt}
use Rattle.sheet.specs.Grammar.{record_size, count_off, every}
use Rattle.sheet.specs.Record.{channel_of}
use Rattle.sheet.specs.Ranges.{of_channel}
use Rattle.sheet.specs.OrderLaws.{ascending_from}

-- the bytes of the record before are passed over
count-off-skip : (k : ℕ) (l : List ℕ) → count_off k l ≡ count_off 0 (drop k l)
count-off-skip zero l = refl
count-off-skip (suc k) [] = refl
count-off-skip (suc k) (x ∷ xs) = count-off-skip k xs

count-off-first : (l : List ℕ) → 0 < length l → count_off 0 l ≡ take (record_size l) l ∷ count_off 0 (drop (record_size l) l)
count-off-first [] h = absurd (omega arith)
count-off-first (x ∷ xs) h =
    let size = record_size (x ∷ xs) in
    let e : size ≡ suc (size - 1) = omega arith in
    ap (λ (rest : List (List ℕ)). take size (x ∷ xs) ∷ rest)
    (count-off-skip (size - 1) xs ∙ ap (λ (n : ℕ). count_off 0 (drop n (x ∷ xs))) (sym e))

-- the record that the bytes begin with, whole or cut short
pub first-record : (l : List ℕ) (n : ℕ) → 0 < length l → n ≡ min (record_size l) (length l) → count_off 0 l ≡ take n l ∷ count_off 0 (drop n l)
first-record l n h e = by_cases (dec_lt (length l) (record_size l))
  where
    by_cases : Dec (length l < record_size l) → count_off 0 l ≡ take n l ∷ count_off 0 (drop n l)
    by_cases (yes cut) =
        let all : n ≡ length l = omega (arith, e) in
        let size : length l ≤ record_size l = omega arith in
        rw (all, take_all (length l) l (omega arith), drop-length l) (rw (take_all (record_size l) l size, drop_of_length-le l size) at (count-off-first l h))
    by_cases (no whole) =
        let all : n ≡ record_size l = omega (arith, e, whole) in
        rw all (count-off-first l h)

-- no more records than bytes
pub count-least : (k : ℕ) (l : List ℕ) → length (count_off k l) ≤ length l
count-least k [] = omega arith
count-least zero (x ∷ xs) = omega (arith, count-least (record_size (x ∷ xs) - 1) xs)
count-least (suc k) (x ∷ xs) = omega (arith, count-least k xs)

-- std's words for a test of all records, and for those that are of a channel
pub all-every : (f : List ℕ → Bool) (rs : List (List ℕ)) → list_all f rs ≡ every f rs
all-every f [] = refl
all-every f (r ∷ rs) = ap (λ (b : Bool). f r && b) (all-every f rs)

pub filter-of_channel : (c : ℕ) (rs : List (List ℕ)) → filter (λ r. eqb (channel_of r) c) rs ≡ of_channel c rs
filter-of_channel c [] = refl
filter-of_channel c (r ∷ rs) = rw (filter-of_channel c rs)

-- the order: one record more
pub order-step : (least : ℕ) {l : List (List ℕ)} {r : List ℕ} {rs : List (List ℕ)} → l ≡ r ∷ rs → (all : Bool)
    → (all && leb least (channel_of r) && ascending_from (channel_of r + 1) rs) ≡ (all && ascending_from least l)
order-step least {l} {r} {rs} e all = and_assoc all (leb least (channel_of r)) (ascending_from (channel_of r + 1) rs) ∙ sym (ap (λ (k : List (List ℕ)). all && ascending_from least k) e)
