-- The blocks that are left decide what the run becomes.
use Prim.Native.Nat.{◌-◌}
use mathlib.Core.Path.{◌≡◌}
use Rattle.frame_runs.specs.Runs.{least_from}
use Rattle.frame_runs.proofs.part.lower_by_reuse.Given as goal

abbrev pub invariant-loop-b : goal.invariant-loop-b
invariant-loop-b l = least_from l.coeffs.track.now.settings l.coeffs.values.now l.c (6 - l.b) l.b l.part ≡ least_from l.coeffs.track.now.settings l.coeffs.values.now l.c (6 - l.first) l.first l.initial.part
