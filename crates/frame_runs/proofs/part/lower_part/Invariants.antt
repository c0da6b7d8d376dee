-- The least so far, then that of what is left.
use mathlib.Core.List.{◌++◌}
use mathlib.Core.Path.{◌≡◌}
use lib.ListN.{take, drop}
use Rattle.frame_runs.specs.Runs.{exponents_of, least_of}
use Rattle.frame_runs.proofs.part.lower_part.Given as goal

abbrev pub invariant-loop-i : goal.invariant-loop-i
invariant-loop-i l = take l.i l.part ++ least_of (drop l.i l.part) (exponents_of (drop l.i l.coeffs)) ≡ least_of l.initial.part (exponents_of l.coeffs)
