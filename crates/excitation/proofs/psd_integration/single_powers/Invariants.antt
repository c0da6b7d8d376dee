-- The bands before the present one have their psds.
use mathlib.Core.Path.{◌≡◌}
use lib.ListN.{length}
use Rattle.excitation.specs.BandPsd.{bndpsd}
use Rattle.excitation.specs.Front.{front}
use Rattle.excitation.proofs.psd_integration.single_powers.Given as goal

abbrev pub invariant-loop-bin : goal.invariant-loop-bin
invariant-loop-bin l = l.powers ≡ front (bndpsd l.exp 0 (length l.exp)) l.bin l.initial.powers
