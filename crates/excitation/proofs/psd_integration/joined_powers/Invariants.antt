-- Each turn joins the bins of one band: the laws of Joining.antt.
use lib.ListN.{length}
use Rattle.excitation.proofs.Joining.{Joined}
use Rattle.excitation.proofs.psd_integration.joined_powers.Given as goal

abbrev pub invariant-loop-band : goal.invariant-loop-band
invariant-loop-band l = Joined l.exp (length l.exp) l.initial.powers l.band l.powers
