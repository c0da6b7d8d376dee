-- The turns of a loop over the n parts of a buffer, z entries each: the channels of a row or the rows of a frame. Part i is lent as
-- `&l[a..e]` with a = z × i and e = a + z.
use Rattle.std.specs.Prelude.{ℕ, ◌+◌, ◌-◌, ◌*◌, ◌≤◌, ◌<◌, ◌≡◌, refl, List, length, take, drop}
use Rattle.std.proofs.Common.{◌∙◌, arith}
use Rattle.bits.specs.Parts.{joined, piece}
use Rattle.bits.specs.PartsLaws.{within, part-is, part-long, part-old, place_rest, fill_more, fill-length, placed}

module _ (z n i : ℕ) (h : i < n) where
  there : z * i + z ≤ z * n
  there = within z i n h

  all : z * i + z - z * i ≡ z
  all = omega arith

  -- what is lent
  pub lent_is : {A : Type 0} (l : List A) → take (z * i + z - z * i) (drop (z * i) l) ≡ piece z i l
  lent_is l = part-is z i (z * i) (z * i + z - z * i) l refl all

  pub lent-long : {A : Type 0} (l : List A) → length l ≡ z * n → length (take (z * i + z - z * i) (drop (z * i) l)) ≡ z
  lent-long l long = part-long z i (z * i) (z * i + z - z * i) l refl all (omega (arith, there))

  -- what came back is ys: one part more is filled
  module _ {A : Type 0} (l ys : List A) (long : length l ≡ z * n) (kept : length ys ≡ length (take (z * i + z - z * i) (drop (z * i) l))) where
    room : z * i + z ≤ length l
    room = omega (arith, there)

    filled : length ys ≡ z
    filled = kept ∙ lent-long l long

    pub turn-length : length (placed (z * i) (z * i + z - z * i) l ys) ≡ length l
    turn-length = fill-length z i (z * i) (z * i + z - z * i) l ys refl all room filled

    pub turn_more : (f : ℕ → List A) → take (z * i) l ≡ joined i f → ys ≡ f i → take (z * (i + 1)) (placed (z * i) (z * i + z - z * i) l ys) ≡ joined (i + 1) f
    turn_more f e q = fill_more z i (z * i) (z * i + z - z * i) f l ys refl all room filled e q

    -- and the parts behind it are still as they were
    pub turn-rest : (old : List A) → drop (z * i) l ≡ drop (z * i) old → drop (z * (i + 1)) (placed (z * i) (z * i + z - z * i) l ys) ≡ drop (z * (i + 1)) old
    turn-rest old e = place_rest z i (z * i) (z * i + z - z * i) l ys old refl all room filled e

  -- a part that is not filled yet
  pub lent-old : {A : Type 0} (l old : List A) → drop (z * i) l ≡ drop (z * i) old → take (z * i + z - z * i) (drop (z * i) l) ≡ piece z i old
  lent-old l old e = part-old z i (z * i) (z * i + z - z * i) l old refl all e
