-- The input of the program (document 01, "The frame body"): it "reads the sheet, then f32 bit patterns of 4 bytes big-endian".
use Rattle.std.specs.Prelude.{ℕ, ◌+◌, ◌*◌, min, List, Float, length, get_or, take, drop}
use Rattle.bits.specs.Parts.{tab}
use Rattle.shaping.specs.Pattern.{coefficient}

-- where the sheet ends: after the two bytes of its length and as many as this says. An input that is shorter is all sheet, and refused with 1.
unfoldable pub sheet_size : List ℕ → ℕ
sheet_size input = min (length input) (2 + (256 * get_or input 0 0 + get_or input 1 0))

-- the sheet
unfoldable pub sheet_in : List ℕ → List ℕ
sheet_in input = take (sheet_size input) input

-- all that follows are coefficient bytes
unfoldable pub coefficient_bytes : List ℕ → List ℕ
coefficient_bytes input = drop (sheet_size input) input

-- the pattern at four bytes, the highest first
unfoldable pub pattern_at : List ℕ → ℕ → ℕ
pattern_at bytes at = 16777216 * get_or bytes at 0 + 65536 * get_or bytes (at + 1) 0 + 256 * get_or bytes (at + 2) 0 + get_or bytes (at + 3) 0

-- the coefficients of n patterns, one after the other
unfoldable pub coefficients_in : ℕ → List ℕ → List Float
coefficients_in n bytes = tab n (λ i. coefficient (pattern_at bytes (4 * i)))
