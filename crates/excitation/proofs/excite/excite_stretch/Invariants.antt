-- Each turn fills the excitation of one band.
use Rattle.excitation.proofs.Exciting.{Excited}
use Rattle.excitation.proofs.excite.excite_stretch.Given as goal

abbrev pub invariant-loop-band : goal.invariant-loop-band
invariant-loop-band l = Excited l.p l.lfe l.powers l.initial.excites l.leaks l.band l.excites
