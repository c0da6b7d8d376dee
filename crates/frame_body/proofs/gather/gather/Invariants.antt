-- After c channels the entries below their ends stand in front.
use mathlib.Core.Path.{◌≡◌}
use Prim.Native.Nat.{◌*◌, ◌≤◌}
use lib.ListN.{length, take}
use Rattle.bits.specs.Parts.{joined}
use Rattle.frame_body.specs.Writing.{lows}
use Rattle.frame_body.proofs.gather.gather.Given as goal

abbrev pub invariant-loop-c : goal.invariant-loop-c
invariant-loop-c g l =
    record {
      before : l.at ≤ 256 * l.c;
      count : l.at ≡ length (joined l.c (lows l.track.settings l.row));
      front : take l.at l.to ≡ joined l.c (lows l.track.settings l.row);
    }
