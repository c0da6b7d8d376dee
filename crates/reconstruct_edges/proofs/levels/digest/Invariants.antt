-- The digest stays below its prime.
use Rattle.std.proofs.Common.{◌<◌}
use Rattle.reconstruct_edges.proofs.levels.digest.Given as goal

abbrev pub invariant-loop-code : goal.invariant-loop-code
invariant-loop-code l = l.all < 8589934609
