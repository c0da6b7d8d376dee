-- The mantissa of a coefficient (document 01, "Mantissas": "finite coefficient times 2^exponent, held to -1..1"), as an f32.
-- A/52 7.1 has it the other way round: a coefficient is mantissa × 2^-exponent.
-- Values and operations are the library's account of IEEE 754 binary32.
use Rattle.std.specs.Prelude.{cond, ℕ, ◌^◌, pos, Float}
use Rattle.std.specs.Float.{binary32}
use Rattle.std.specs.Float.Ieee.{mul, lt, of_int, of_bits}

-- +0, 1 and -1, by their patterns
abbrev pub zero32 : Float
zero32 = of_bits binary32 0

abbrev pub one32 : Float
one32 = of_bits binary32 0x3f80_0000

abbrev pub minus_one32 : Float
minus_one32 = of_bits binary32 0xbf80_0000

-- m held to -1..1
unfoldable pub held : Float → Float
held m = cond (lt m minus_one32) minus_one32 (cond (lt one32 m) one32 m)

-- the mantissa of a coefficient at an exponent
unfoldable pub scaled : Float → ℕ → Float
unfolding held
scaled coeff exponent = held (mul binary32 coeff (of_int binary32 (pos (2 ^ exponent))))
