-- bap 6 to 15 (A/52 7.3.2, fractions in two's complement; document 01, "Mantissas"): "rounded half away from zero, held to the signed range,
-- as two's complement of the width". One rule over the width. A mantissa is its sign and num / den, whole numbers.
use Rattle.std.specs.Prelude.{cond, ℕ, ◌+◌, ◌-◌, ◌*◌, ◌/◌, ◌%◌, ◌^◌, min, Float}
use Rattle.std.specs.Float.Ieee.{lt}
use Rattle.std.specs.Float.Ieee.Positive.{num, den}
use Rattle.quantiser.specs.Scale.{zero32}

-- n / d to the nearest whole number, a half up; of a size, so a half away from zero
abbrev pub half_away : ℕ → ℕ → ℕ
half_away n d = (2 * n + d) / (2 * d)

-- m * 2^(width - 1), rounded and held to -2^(width - 1) .. 2^(width - 1) - 1, as two's complement of the width:
-- 2^width less its size where it is below zero, and 0 where that size is 0
unfoldable pub signed_code : ℕ → Float → ℕ
signed_code width m =
    let size = half_away (num m * 2 ^ (width - 1)) (den m) in
    cond (lt m zero32) ((2 ^ width - min size (2 ^ (width - 1))) % 2 ^ width) (min size (2 ^ (width - 1) - 1))
