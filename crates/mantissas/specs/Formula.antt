-- What document 01's formula for the bits of a stream counts, 5⌈n1/3⌉ + 7⌈n2/3⌉ + 7⌈n4/2⌉ and the widths of the ungrouped ("The frame body").
-- Count.antt shows that a stream has so many.
use Rattle.std.specs.Prelude.{cond, List, [], ◌∷◌, ℕ, zero, suc, ◌+◌, ◌*◌, eqb}

-- how many bins have the bap k: n1, n2 and n4 are those of 1, 2 and 4
unfoldable pub count : ℕ → List ℕ → ℕ
count k [] = 0
count k (b ∷ bs) = cond (eqb k b) (1 + count k bs) (count k bs)

-- the bits of the codes that have a field each: "bap 0 none, 3 has 3 bits, 5 has 4, and 6..15 have 5 to 12, 14, 16"
unfoldable pub alone : List ℕ → ℕ
alone bs =
    3 * count 3 bs + 4 * count 5 bs + 5 * count 6 bs + 6 * count 7 bs + 7 * count 8 bs + 8 * count 9 bs
    + 9 * count 10 bs + 10 * count 11 bs + 11 * count 12 bs + 12 * count 13 bs + 14 * count 14 bs + 16 * count 15 bs

-- the sum of f 0, .. , f (n - 1)
unfoldable pub sum : (ℕ → ℕ) → ℕ → ℕ
sum f zero = 0
sum f (suc n) = sum f n + f n
