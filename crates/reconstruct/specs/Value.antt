-- The coefficient that a mantissa code stands for (document 02, W3: "the f32 level, or the signed code over 2^(width-1), times 2^-exponent";
-- A/52 7.3.2 and 7.3.3). One rule over the number of levels, one over the width; no bap has a case of its own.
use Rattle.std.specs.Prelude.{Bool, not, cond, ℕ, ◌-◌, ◌^◌, ltb, pos, Float}
use Rattle.std.specs.Float.{binary32}
use Rattle.std.specs.Float.Ieee.{round, div, of_int}
use Rattle.tables.specs.Entry.{entry}
use Rattle.tables.specs.Quantizer.{level, level_count, quantization_bits}

-- ---- bap 6 to 15: fractions in two's complement (A/52 7.3.2)

-- "the signed code": its sign
unfoldable pub negative : ℕ → ℕ → Bool
negative width code = not (ltb code (2 ^ (width - 1)))

-- and its size
unfoldable pub size : ℕ → ℕ → ℕ
size width code = cond (ltb code (2 ^ (width - 1))) code (2 ^ width - code)

-- "the signed code over 2^(width-1)". `round` takes the sign, the size above the line and what stands below it; it changes nothing here
-- (ValueLaws.antt, `fraction-exact`)
unfoldable pub fraction : ℕ → ℕ → Float
unfolding negative size
fraction width code = round binary32 (negative width code) (size width code) (2 ^ (width - 1))

-- ---- the mantissa and the coefficient

-- bap 1 to 5: "the f32 level" of Tables 7.19 to 7.23; 6 to 15: the fraction
unfoldable pub mantissa : ℕ → ℕ → Float
unfolding level fraction
mantissa bap code = cond (ltb bap 6) (level (level_count bap) code) (fraction (entry quantization_bits bap) code)

-- "times 2^-exponent" (A/52 7.1: a coefficient is mantissa × 2^-exponent): over 2^exponent, which an f32 is exactly. That the quotient is
-- exact too: ValueLaws.antt, `unscaled-exact`
unfoldable pub unscaled : Float → ℕ → Float
unscaled m exponent = div binary32 m (of_int binary32 (pos (2 ^ exponent)))
