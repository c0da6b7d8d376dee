-- All segments before the present one are in their ranges.
use mathlib.Core.Path.{◌≡◌}
use Prim.Native.Nat.{◌-◌, ◌≤◌}
use Rattle.sheet.specs.Ranges.{all_below, segment_in_range}
use Rattle.sheet.proofs.ranges.segments_in_range.Given as goal

abbrev pub invariant-loop-i : goal.invariant-loop-i
invariant-loop-i l = (l.i ≤ l.nseg) × (l.all ≡ all_below l.i (segment_in_range l.bytes))

abbrev pub decreases-loop-i : goal.decreases-loop-i
decreases-loop-i l = l.nseg - l.i
