-- After c channels: whether their coefficients are finite.
use mathlib.Core.Path.{◌≡◌}
use Rattle.sheet.specs.Ranges.{all_below}
use Rattle.frame_runs.specs.Finite.{finite_part}
use Rattle.frame.specs.Layout.{below_end}
use Rattle.frame_runs.proofs.finite.row_finite.Given as goal

abbrev pub invariant-loop-c : goal.invariant-loop-c
invariant-loop-c l = l.all ≡ all_below l.c (λ j. finite_part (below_end l.track.settings l.b j l.coeffs))
