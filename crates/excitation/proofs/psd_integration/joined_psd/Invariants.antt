-- The psds of the first bin, and of so many behind it, are joined.
use Prim.Native.Nat.{◌+◌}
use mathlib.Core.Path.{◌≡◌}
use Rattle.excitation.specs.BandPsd.{joined_psd}
use Rattle.excitation.proofs.psd_integration.joined_psd.Given as goal

abbrev pub invariant-loop-exponent : goal.invariant-loop-exponent
invariant-loop-exponent l = l.joined ≡ joined_psd l.bins 0 (l.exponent-index + 1)
