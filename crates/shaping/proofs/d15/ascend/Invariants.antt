-- The bins before the present one have passed, and what is left passes after the last value.
use mathlib.Core.Path.{◌≡◌}
use mathlib.Core.List.{◌++◌}
use Prim.Native.Nat.{◌+◌, ◌-◌, ◌*◌, ◌≤◌}
use lib.ListN.{length, take, drop}
use Rattle.shaping.specs.Reach.{ascended}
use Rattle.shaping.proofs.d15.ascend.Given as goal

abbrev pub invariant-loop-i : goal.invariant-loop-i
invariant-loop-i l =
    (l.i ≤ length l.exp) × (length l.exp ≡ length l.initial.exp) × (l.v ≤ 22 + 2 * l.i) × (take l.i l.exp ++ ascended l.v (drop l.i l.exp) ≡ ascended (l.limit - 2) l.initial.exp)
