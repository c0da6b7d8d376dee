-- A tally: the four sums of document 01's formula (Formula.antt) side by side in one number, as the code adds them up bin by bin. The sums
-- stay apart: a block has at most 1,536 bins, so fewer than 2,048 of a bap, and fewer than 65,536 bits of codes that have a field each.
use Rattle.std.specs.Prelude.{List, ℕ, ◌+◌, ◌*◌, ◌/◌, ◌%◌, ◌^◌}
use Rattle.mantissas.specs.Formula.{count, alone}

unfoldable pub tally_of : List ℕ → ℕ
tally_of bs = alone bs + 2 ^ 16 * count 1 bs + 2 ^ 27 * count 2 bs + 2 ^ 38 * count 4 bs

-- the formula of the sums that a number holds
unfoldable pub tally_bits : ℕ → ℕ
tally_bits t = t % 2 ^ 16 + 5 * ((t / 2 ^ 16 % 2048 + 2) / 3) + 7 * ((t / 2 ^ 27 % 2048 + 2) / 3) + 7 * ((t / 2 ^ 38 + 1) / 2)
