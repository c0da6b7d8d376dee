-- The codes so far, then those of the bins that are left.
use mathlib.Core.List.{◌++◌}
use mathlib.Core.Path.{◌≡◌}
use lib.ListN.{take, drop}
use Rattle.frame_encoder.specs.Codes.{codes_for}
use Rattle.frame_encoder.proofs.codes.code_bins.Given as goal

abbrev pub invariant-loop-i : goal.invariant-loop-i
invariant-loop-i l = take l.i l.codes ++ codes_for (drop l.i l.coeffs) (drop l.i l.exps) (drop l.i l.bap) ≡ codes_for l.coeffs l.exps l.bap
