-- The parts before channel c are made.
use mathlib.Core.Path.{◌≡◌}
use mathlib.Core.List.{map}
use Prim.Native.Nat.{◌*◌}
use lib.ListN.{take}
use Rattle.bits.specs.Parts.{joined}
use Rattle.reconstruct.specs.Bin.{flag_of, level_of}
use Rattle.reconstruct.specs.CopyLaws.{row_part}
use Rattle.reconstruct.proofs.rows.reconstruct_row.Given as goal

abbrev pub invariant-loop-c : goal.invariant-loop-c
invariant-loop-c l = (take (256 * l.c) l.has_level ≡ joined l.c (λ j. map flag_of (row_part l.track.settings l.exps l.codes j))) × (take (256 * l.c) l.levels ≡ joined l.c (λ j. map level_of (row_part l.track.settings l.exps l.codes j)))
