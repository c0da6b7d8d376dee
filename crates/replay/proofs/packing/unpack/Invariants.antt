-- Both places stay within their slices, and each run takes at least a byte.
use Rattle.std.proofs.Common.{◌-◌, ◌≡◌, ◌≤◌, length}
use Rattle.replay.proofs.packing.unpack.Given as goal

abbrev pub invariant-loop-at : goal.invariant-loop-at
invariant-loop-at l =
    (l.at ≤ length l.packed) × (l.to ≤ length l.plain) × (length l.plain ≡ length l.initial.plain)

abbrev pub decreases-loop-at : goal.decreases-loop-at
decreases-loop-at l = length l.packed - l.at
