-- Entries wider than a byte, as a part of the list has them: the highest byte of each entry, then the next byte of each, and so on.
use Rattle.std.specs.Prelude.{◌≡◌, ℕ, ◌+◌, ◌*◌, cond, List, map, length, slice_index, to_bits, Float}
use Rattle.std.specs.Float.{binary32}
use Rattle.std.specs.Float.Ieee.Scale.{finite}
use Rattle.bits.specs.Parts.{tab}

-- two bytes, the highest first
abbrev pub code_of : ℕ → ℕ → ℕ
code_of high low = 256 * high + low

-- four bytes, the highest first
abbrev pub word_of : ℕ → ℕ → ℕ → ℕ → ℕ
word_of first second third fourth = 16777216 * first + 65536 * second + 256 * third + fourth

-- the entry k of n codes, and of n numbers of four bytes
abbrev pub code_in : ℕ → List ℕ → ℕ → ℕ
code_in n part k = code_of (slice_index part k) (slice_index part (n + k))

abbrev pub word_in : ℕ → List ℕ → ℕ → ℕ
word_in n part k = word_of (slice_index part k) (slice_index part (n + k)) (slice_index part (2 * n + k)) (slice_index part (3 * n + k))

-- these entries, of so many bytes each, are by their patterns the ones of the part, and nothing is left over
abbrev pub SameEntries : {A : Type 0} → ℕ → (A → ℕ) → (ℕ → List ℕ → ℕ → ℕ) → List A → List ℕ → Type 0
SameEntries width pattern entry_in entries part =
    (length part ≡ width * length entries) × (map pattern entries ≡ tab (length entries) (entry_in (length entries) part))

-- the bits of a level; what is not finite, which the list has nowhere, has those of one NaN
unfoldable pub pattern_of : Float → ℕ
pattern_of level = cond (finite level) (to_bits binary32 level) 4294967295
