-- A/52 7.2.3, Table 7.16, and 7.3, Tables 7.18 to 7.23: the bap of an address, the bits of a bap's field,
-- the number of a bap's levels, and the levels of bap 1 to 5.
use Rattle.std.specs.Prelude.{ℕ, zero, suc, ◌+◌, ◌-◌, ◌*◌, List, [], ◌∷◌, ltb, Float}
use Rattle.std.specs.Float.{binary32}
use Rattle.std.specs.Float.Ieee.{round}
use Rattle.tables.specs.Entry.{entry}

-- Table 7.16: bap, by the address of 7.2.2.7
unfoldable pub baptab : List ℕ
baptab =
    0 ∷ 1 ∷ 1 ∷ 1 ∷ 1 ∷ 1 ∷ 2 ∷ 2 ∷ 3 ∷ 3 ∷
    3 ∷ 4 ∷ 4 ∷ 5 ∷ 5 ∷ 6 ∷ 6 ∷ 6 ∷ 6 ∷ 7 ∷
    7 ∷ 7 ∷ 7 ∷ 8 ∷ 8 ∷ 8 ∷ 8 ∷ 9 ∷ 9 ∷ 9 ∷
    9 ∷ 10 ∷ 10 ∷ 10 ∷ 10 ∷ 11 ∷ 11 ∷ 11 ∷ 11 ∷ 12 ∷
    12 ∷ 12 ∷ 12 ∷ 13 ∷ 13 ∷ 13 ∷ 13 ∷ 14 ∷ 14 ∷ 14 ∷
    14 ∷ 14 ∷ 14 ∷ 14 ∷ 14 ∷ 15 ∷ 15 ∷ 15 ∷ 15 ∷ 15 ∷
    15 ∷ 15 ∷ 15 ∷ 15 ∷ []

-- Table 7.18, by bap, the bits of a field: for bap 1, 2 and 4 it holds a group of 3, 3 and 2 mantissas
unfoldable pub quantization_bits : List ℕ
quantization_bits =
    0 ∷ 5 ∷ 7 ∷ 3 ∷ 7 ∷ 4 ∷ 5 ∷ 6 ∷ 7 ∷ 8 ∷
    9 ∷ 10 ∷ 11 ∷ 12 ∷ 14 ∷ 16 ∷ []

-- Table 7.18, the levels of each bap
unfoldable pub level_counts : List ℕ
level_counts =
    0 ∷ 3 ∷ 5 ∷ 7 ∷ 11 ∷ 15 ∷ 32 ∷ 64 ∷ 128 ∷ 256 ∷
    512 ∷ 1024 ∷ 2048 ∷ 4096 ∷ 16384 ∷ 65536 ∷ []

-- how many levels a bap has
unfoldable pub level_count : ℕ → ℕ
unfolding level_counts entry
level_count bap = entry level_counts bap

-- Tables 7.19 to 7.23: code k of L symmetric levels stands for (2k - (L - 1)) / L, here as the nearest f32.
-- `round` takes the sign, the size above the line and what stands below it; one of the two differences is 0.
unfoldable pub level : ℕ → ℕ → Float
level L k = round binary32 (ltb (2 * k) (L - 1)) ((2 * k - (L - 1)) + (L - 1 - 2 * k)) L

-- the levels of the codes from k on, n of them
unfoldable pub levels_from : ℕ → ℕ → ℕ → List Float
unfolding level
levels_from L zero k = []
levels_from L (suc n) k = level L k ∷ levels_from L n (suc k)

-- all L levels
unfoldable pub levels : ℕ → List Float
unfolding levels_from
levels L = levels_from L L 0
