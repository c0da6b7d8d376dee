-- The codes of the blocks before b are in range.
use mathlib.Core.Path.{◌≡◌}
use Prim.Native.Nat.{◌*◌}
use Rattle.mantissas.specs.Stream.{coded}
use Rattle.sheet.specs.Ranges.{all_below}
use Rattle.bits.specs.Parts.{piece}
use Rattle.frame_rows.proofs.legal.codes_legal.Given as goal

abbrev pub invariant-loop-b : goal.invariant-loop-b
invariant-loop-b l = l.all ≡ all_below l.b (λ j. coded (piece (256 * l.n) j l.bap) (piece (256 * l.n) j l.codes))
