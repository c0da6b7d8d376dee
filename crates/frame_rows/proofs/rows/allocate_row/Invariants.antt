-- The parts before channel c are allocated; the others are still as they were.
use mathlib.Core.Path.{◌≡◌}
use Prim.Native.Nat.{◌*◌}
use lib.ListN.{take, drop}
use Rattle.bits.specs.Parts.{joined, piece}
use Rattle.frame.specs.Body.{bap_part}
use Rattle.frame_rows.proofs.rows.allocate_row.Given as goal

abbrev pub invariant-loop-c : goal.invariant-loop-c
invariant-loop-c l =
    record {
      filled : take (256 * l.c) l.bap ≡ joined l.c (λ j. bap_part l.track.settings j (piece 256 j l.row));
      rest : drop (256 * l.c) l.bap ≡ drop (256 * l.c) l.initial.bap;
    }
