-- The exponents so far, then those of the coefficients that are left.
use mathlib.Core.List.{◌++◌}
use mathlib.Core.Path.{◌≡◌}
use lib.ListN.{take, drop}
use Rattle.frame_runs.specs.Runs.{exponents_of}
use Rattle.frame_runs.proofs.part.extract_part.Given as goal

abbrev pub invariant-loop-i : goal.invariant-loop-i
invariant-loop-i l = take l.i l.part ++ exponents_of (drop l.i l.coeffs) ≡ exponents_of l.coeffs
