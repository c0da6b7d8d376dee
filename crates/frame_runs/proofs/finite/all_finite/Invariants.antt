-- After b blocks: whether their coefficients are finite.
use mathlib.Core.Path.{◌≡◌}
use Rattle.sheet.specs.Ranges.{all_below}
use Rattle.frame_runs.specs.Finite.{finite_row}
use Rattle.frame_runs.proofs.finite.all_finite.Given as goal

abbrev pub invariant-loop-b : goal.invariant-loop-b
invariant-loop-b l = l.all ≡ all_below l.b (finite_row l.track.settings l.coeffs)
