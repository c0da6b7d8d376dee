-- The loop adds what each bin loses.
use mathlib.Core.Path.{◌≡◌}
use Prim.Native.Nat.{◌≤◌, ◌+◌, ◌*◌}
use lib.ListN.{drop}
use Rattle.shaping.specs.Strategies.{cost}
use Rattle.shaping.proofs.Costing.{left}
use Rattle.shaping.proofs.strategies.cost_of.Given as goal

abbrev pub invariant-loop-i : goal.invariant-loop-i
invariant-loop-i g l = (l.i ≤ 256) × (l.sum + 255 ≤ 255 * l.i) × (l.sum + left g.row.H l.j l.v (drop l.i l.exp) ≡ cost g.row.H l.exp)
