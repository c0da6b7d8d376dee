-- What was found of the bins before bin i, and that those from bin i on follow the rule, is what the whole test says.
use mathlib.Core.Path.{◌≡◌}
use mathlib.Core.Bool.{true, ◌&&◌}
use Prim.Native.Nat.{◌-◌, ◌%◌, ◌≤◌}
use lib.ListN.{drop, get_or}
use Rattle.shaping.specs.Shaped.{follows, shaped_for}
use Rattle.shaping.proofs.Checking.{left}
use Rattle.shaping.proofs.shaped.bins_shaped.Given as goal

abbrev pub invariant-loop-i : goal.invariant-loop-i
invariant-loop-i l =
    (1 ≤ l.i)
    × (l.ok ≡ true → get_or l.exp (l.i - 1) 0 ≤ 24)
    × ((l.ok && follows (l.span - 1) (left l.span ((l.i - 1) % l.span)) (get_or l.exp (l.i - 1) 0) (drop l.i l.exp)) ≡ shaped_for (l.span - 1) l.exp)
