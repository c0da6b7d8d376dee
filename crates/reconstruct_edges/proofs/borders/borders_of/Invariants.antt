-- Neither count passes the bins seen, and the codes keep their length.
use Rattle.std.proofs.Common.{◌≡◌, ◌≤◌, length}
use Rattle.reconstruct_edges.proofs.borders.borders_of.Given as goal

abbrev pub invariant-loop-i : goal.invariant-loop-i
invariant-loop-i l = (l.taken ≤ l.i) × (l.refused ≤ l.i) × (length l.codes ≡ length l.fn.codes)
