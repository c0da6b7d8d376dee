-- Each entry is the coefficient of its four bytes.
use Prim.Native.Nat.{◌*◌}
use mathlib.Core.Path.{◌≡◌}
use lib.ListN.{take}
use Rattle.bits.specs.Parts.{tab}
use Rattle.shaping.specs.Pattern.{coefficient}
use Rattle.input.specs.Input.{pattern_at}
use Rattle.input.proofs.coefficients.read_coefficients.Given as goal

abbrev pub invariant-loop-i : goal.invariant-loop-i
invariant-loop-i l = take l.i l.coeffs ≡ tab l.i (λ k. coefficient (pattern_at l.bytes (4 * k)))
