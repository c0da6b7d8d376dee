use mathlib.Core.Path.{ap, ◌∙◌}
use native.Mathlib.Omega.{arith}
use Rattle.sheet.specs.Settings.{channels}
use Rattle.frame_runs.specs.Finite.{finite_part, finite_row}
use Rattle.frame.specs.Layout.{below_end}
use Rattle.frame_runs.proofs.Tests.{all_more, all_end}
use Rattle.frame_runs.proofs.finite.row_finite.Goals as goal

pub loop-c-preserved : goal.loop-c-preserved
loop-c-preserved c = all_more c.loop-c.c (λ j. finite_part (below_end c.args.track.now.settings c.args.b j c.args.coeffs.now)) _ _ c.loop-c.invariant (c.part_finite-all.ensures ∙ ap finite_part c.below_end.ensures.value)

pub returns : goal.returns
unfolding finite_row
returns c = all_end c.loop-c.c (channels c.args.track.now.settings) _ _ (omega (arith, c.channels-c-end.ensures.is)) c.loop-c.invariant
