-- Each turn fills one band: the laws of Filling.antt.
use lib.ListN.{length}
use Rattle.allocation.specs.Held.{bap_from}
use Rattle.allocation.proofs.Filling.{Filled}
use Rattle.allocation.proofs.bap.fill_joined.Given as goal

abbrev pub invariant-loop-band : goal.invariant-loop-band
invariant-loop-band l = Filled (bap_from l.bases l.exp) (length l.exp) l.initial.bap l.band l.bap
