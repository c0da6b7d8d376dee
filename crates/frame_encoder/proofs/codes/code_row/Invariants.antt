-- The parts before c hold the codes of block b.
use Prim.Native.Nat.{◌*◌}
use mathlib.Core.Path.{◌≡◌}
use lib.ListN.{take}
use Rattle.bits.specs.Parts.{joined}
use Rattle.frame_encoder.specs.Codes.{code_part}
use Rattle.frame_encoder.proofs.codes.code_row.Given as goal

abbrev pub invariant-loop-c : goal.invariant-loop-c
invariant-loop-c l = take (256 * l.c) l.row ≡ joined l.c (code_part l.coeffs.track.now.settings l.coeffs.values.now l.exps l.bap l.b)
