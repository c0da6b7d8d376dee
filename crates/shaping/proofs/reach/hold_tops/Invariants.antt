-- Bin 0 first, then the others: all before the present one are held.
use mathlib.Core.Path.{◌≡◌}
use Prim.Native.Nat.{◌≤◌, ◌<◌}
use lib.ListN.{length, take}
use Rattle.bits.specs.Parts.{tab}
use Rattle.shaping.specs.Reach.{topped_at}
use Rattle.shaping.proofs.reach.hold_tops.Given as goal

abbrev pub invariant-loop-i : goal.invariant-loop-i
invariant-loop-i l =
    (take l.i l.to ≡ tab l.i (topped_at l.limit l.exp)) × (0 < l.i) × (l.i ≤ length l.to) × (length l.to ≡ length l.exp)
