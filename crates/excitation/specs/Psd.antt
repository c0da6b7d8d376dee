-- A/52 7.2.2.2: exponents into powers.
use Rattle.std.specs.Prelude.{ℕ, ◌-◌, ◌*◌}

-- psd = 3072 - (exp << 7), for the exponent of a bin; an exponent is 0 to 24, so it is never negative
abbrev pub psd : ℕ → ℕ
psd exponent = 3072 - 128 * exponent
