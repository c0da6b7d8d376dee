-- The few signed numbers that A/52 7.2.2 needs: its max, and a number held to at least 0.
use Rattle.std.specs.Prelude.{ℕ, cond, ℤ, pos, negsuc}
use Rattle.std.specs.Int.Signed.{lt_z}

-- max (x, y)
abbrev pub int_max : ℤ → ℤ → ℤ
int_max x y = cond (lt_z x y) y x

-- max (0, z), as a natural number
abbrev pub hold : ℤ → ℕ
hold (pos n) = n
hold (negsuc n) = 0
