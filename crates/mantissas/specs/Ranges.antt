-- What a bap says of its codes (A/52 7.3, Table 7.18; document 01, "Mantissas"): how many values a code has, how many codes share a
-- field, and how many bits the field has. A bap that is not grouped is a group of one, and bap 0 one in a field of no bits, so that
-- nothing below has a case for them.
use Rattle.std.specs.Prelude.{List, [], ◌∷◌, ℕ, max}
use Rattle.tables.specs.Entry.{entry}
use Rattle.tables.specs.Quantizer.{quantization_bits, level_count}

-- how many values a code has: the levels of Table 7.18, and for bap 0, which has none there, the one code 0 (document 01)
unfoldable pub levels : ℕ → ℕ
levels b = max 1 (level_count b)

-- A/52 7.3.5 (and Table 7.18: 5/3, 7/3 and 7/2 bits): three codes of bap 1 share a field, three of bap 2, two of bap 4
unfoldable pub group_sizes : List ℕ
group_sizes = 1 ∷ 3 ∷ 3 ∷ 1 ∷ 2 ∷ 1 ∷ 1 ∷ 1 ∷ 1 ∷ 1 ∷ 1 ∷ 1 ∷ 1 ∷ 1 ∷ 1 ∷ 1 ∷ []

-- how many codes share a field
unfoldable pub size : ℕ → ℕ
size b = entry group_sizes b

-- the bits of the field (A/52's qntztab; of bap 1, 2 and 4 those of the group)
unfoldable pub width : ℕ → ℕ
width b = entry quantization_bits b
