-- Those tested so far and those that are left decide.
use Rattle.std.proofs.Common.{◌≡◌, ◌&&◌}
use Rattle.mantissas.specs.Stream.{baps_fit}
use Rattle.mantissas.proofs.Checking.{baps_from}
use Rattle.mantissas.proofs.code.check_baps.Given as goal

abbrev pub invariant-loop-b : goal.invariant-loop-b
invariant-loop-b l = (l.all && baps_from l.b-index l.bap) ≡ baps_fit l.bap
