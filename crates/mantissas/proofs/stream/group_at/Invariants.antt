-- The value so far and the codes from bin j on are the group; each way through the body is a law of Grouping.antt.
use Rattle.std.proofs.Common.{◌≤◌}
use Rattle.mantissas.proofs.Grouping.{Grouping}
use Rattle.mantissas.proofs.stream.group_at.Given as goal

abbrev pub invariant-loop-j : goal.invariant-loop-j
invariant-loop-j l = Grouping l.bap l.codes l.b l.i l.j l.missing l.v × (l.missing ≤ l.n)
