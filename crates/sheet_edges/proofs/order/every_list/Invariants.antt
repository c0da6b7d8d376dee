-- Neither count is more than the lists so far.
use Rattle.std.proofs.Common.{◌≤◌}
use Rattle.sheet_edges.proofs.order.every_list.Given as goal

abbrev pub invariant-loop-number : goal.invariant-loop-number
invariant-loop-number g l = (l.out_of_order ≤ l.number) × (l.out_of_range ≤ l.number)
