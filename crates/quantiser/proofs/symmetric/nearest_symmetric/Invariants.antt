-- The best so far and the levels from i on give the nearest of all.
use Rattle.std.proofs.Common.{◌≡◌, drop}
use Rattle.quantiser.specs.Symmetric.{nearest_from, nearest_of}
use Rattle.quantiser.proofs.symmetric.nearest_symmetric.Given as goal

abbrev pub invariant-loop-i : goal.invariant-loop-i
invariant-loop-i l = nearest_from l.m (drop l.i l.table) l.i l.best l.best_distance ≡ nearest_of l.m l.table
