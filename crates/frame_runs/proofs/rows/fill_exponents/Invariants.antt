-- The rows before block b are stored, and `row` holds the last of them.
use Prim.Native.Nat.{◌*◌}
use mathlib.Core.Path.{◌≡◌}
use lib.ListN.{length, take}
use Rattle.bits.specs.Parts.{joined}
use Rattle.sheet.specs.Sizes.{most_row}
use Rattle.frame_runs.specs.Carried.{row_at, row_before}
use Rattle.frame_runs.proofs.rows.fill_exponents.Given as goal

abbrev pub invariant-loop-b : goal.invariant-loop-b
invariant-loop-b l = (length l.row ≡ most_row) × (take (256 * l.n) l.row ≡ row_before l.coeffs.track.now.settings l.coeffs.values.now l.b) × (take (256 * l.n * l.b) l.exps ≡ joined l.b (row_at l.coeffs.track.now.settings l.coeffs.values.now))
