use native.Mathlib.Omega.{arith}
use Rattle.frame_runs.specs.Finite.{finite_row, all_finite}
use Rattle.frame_runs.proofs.Tests.{all_end}
use Rattle.frame_runs.proofs.finite.all_finite.Goals as goal

pub returns : goal.returns
unfolding all_finite
returns c = all_end c.loop-b.b 6 (finite_row c.args.track.now.settings c.args.coeffs.now) _ (omega arith) c.loop-b.invariant
