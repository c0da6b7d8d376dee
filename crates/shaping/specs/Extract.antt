-- The exponent of a coefficient (document 01, `extract_exponent`; A/52 7.1, 8.2.7).
use Rattle.std.specs.Prelude.{ℕ, ◌-◌, ◌/◌, ◌%◌, ◌^◌, min, Float, Result, Ok}
use Rattle.std.specs.Float.{binary32}
use Rattle.std.specs.Float.Ieee.{to_bits}
use Rattle.std.specs.Float.Ieee.Scale.{finite}
use Rattle.bits.specs.Answer.{must}
use Rattle.bits.specs.declared.refusal.Refusal.{Refusal}
use Rattle.bits.specs.declared.refusal.Refusal.TheVariants as refusal

-- the "biased exponent field of the f32": 8 bits above the 23 fraction bits of the pattern; it is 0 exactly below 2^-126 in magnitude
abbrev pub biased_exponent : Float → ℕ
biased_exponent x = to_bits binary32 x / 2 ^ 23 % 2 ^ 8

-- "24 below 2^-126 in magnitude; else 126 minus the biased exponent field of the f32, held to 0..24": `-` stops at 0, and the field 0,
-- from which 126 would be left, gives 24
unfoldable pub exponent_of : Float → ℕ
unfolding to_bits
exponent_of x = min 24 (126 - biased_exponent x)

-- the answer of `extract_exponent`: 3 for a coefficient that is not finite
unfoldable pub extracted : Float → Result ℕ Refusal
unfolding exponent_of
extracted x = must (finite x) refusal.NotFinite (Ok (exponent_of x))
