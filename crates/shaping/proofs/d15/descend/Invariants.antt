-- The bins from the present one on have passed, and the last value stands in the first of them.
use mathlib.Core.Path.{◌≡◌}
use Prim.Native.Nat.{◌≤◌}
use lib.ListN.{length, drop}
use Rattle.shaping.specs.Reach.{next, descended}
use Rattle.shaping.proofs.Descent.{descended_from}
use Rattle.shaping.proofs.d15.descend.Given as goal

abbrev pub invariant-loop-i : goal.invariant-loop-i
invariant-loop-i l =
    (l.i ≤ length l.initial.exp) × (length l.exp ≡ length l.initial.exp) × (l.v ≤ 24) × (l.v ≡ next (descended (drop l.i l.initial.exp))) × (l.exp ≡ descended_from l.i l.initial.exp)
