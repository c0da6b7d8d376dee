-- Coefficients as the bit patterns of f32 (document 01, "The frame body": "f32 bit patterns of 4 bytes big-endian").
use Rattle.std.specs.Prelude.{ℕ, false, cond, Float}
use Rattle.std.specs.Float.{binary32, inf}
use Rattle.std.specs.Float.Ieee.{nan_bits, of_bits}

-- the coefficient of a pattern. An infinity stands for every NaN: neither is finite, so both are 3 below end and ignored from end on.
unfoldable pub coefficient : ℕ → Float
coefficient pattern = cond (nan_bits binary32 pattern) (inf false) (of_bits binary32 pattern)
