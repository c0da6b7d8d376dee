-- The bins before the present one hold the values of their spans.
use mathlib.Core.Path.{◌≡◌}
use Prim.Native.Nat.{◌≤◌}
use lib.ListN.{length, take}
use Rattle.bits.specs.Parts.{tab}
use Rattle.shaping.proofs.Sharing.{value_at}
use Rattle.shaping.proofs.spans.spread_out.Given as goal

abbrev pub invariant-loop-i : goal.invariant-loop-i
invariant-loop-i g l = (take l.i l.exp ≡ tab l.i (value_at g.row.H l.k l.values)) × (l.i ≤ length l.exp) × (length l.exp ≡ length l.initial.exp)
