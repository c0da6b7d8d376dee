-- The parts before c are those of block b, the others still those of the block before.
use Prim.Native.Nat.{◌*◌}
use mathlib.Core.Path.{◌≡◌}
use lib.ListN.{take, drop}
use Rattle.bits.specs.Parts.{joined, piece}
use Rattle.frame_runs.specs.Carried.{next_part}
use Rattle.frame_runs.proofs.rows.next_row.Given as goal

abbrev pub invariant-loop-c : goal.invariant-loop-c
invariant-loop-c l = (take (256 * l.c) l.row ≡ joined l.c (λ j. next_part l.coeffs.track.now.settings l.coeffs.values.now l.b j (piece 256 j l.initial.row))) × (drop (256 * l.c) l.row ≡ drop (256 * l.c) l.initial.row)
