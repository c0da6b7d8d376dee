-- The loop finds the least of the span.
use mathlib.Core.Path.{◌≡◌}
use Prim.Native.Nat.{◌-◌, ◌+◌, ◌≤◌}
use lib.ListN.{length, drop, get_or}
use Rattle.shaping.specs.Spans.{least}
use Rattle.shaping.proofs.spans.least_from.Given as goal

abbrev pub invariant-loop-j : goal.invariant-loop-j
invariant-loop-j l = (l.i + 1 + l.j ≤ length l.exp) × (least (l.h - l.j) l.m (drop (l.i + 1 + l.j) l.exp) ≡ least l.h (get_or l.exp l.i 0) (drop (l.i + 1) l.exp))
