-- The values before the present one are the least of the spans before it.
use mathlib.Core.Path.{◌≡◌}
use mathlib.Core.List.{◌++◌}
use Prim.Native.Nat.{◌-◌, ◌≤◌}
use lib.ListN.{length, take, drop}
use Rattle.shaping.specs.Spans.{leasts, span_leasts}
use Rattle.shaping.proofs.spans.gather.Given as goal

abbrev pub invariant-loop-i : goal.invariant-loop-i
invariant-loop-i g l =
    (l.c ≤ l.i) × (l.c ≤ length l.exp) × (length l.to ≡ 256) × (take l.c l.to ++ leasts g.row.H 0 (drop l.i l.exp) ≡ span_leasts g.row.H l.k l.exp)

abbrev pub decreases-loop-i : goal.decreases-loop-i
decreases-loop-i g l = length l.exp - l.i
