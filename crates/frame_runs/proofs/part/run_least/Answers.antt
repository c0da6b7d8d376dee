-- The first block of the run, then its reuse blocks.
use mathlib.Core.Path.{ap, ◌∙◌}
use Rattle.frame_runs.specs.FiniteLaws.{finite-below}
use Rattle.frame_runs.specs.Runs.{exponents_of}
use Rattle.frame_runs.specs.RunsLaws.{run-begins}
use Rattle.frame_runs.proofs.part.run_least.Goals as goal

pub extract_part-requires-clause-coeffs_value : goal.extract_part-requires-clause-coeffs_value
extract_part-requires-clause-coeffs_value c = rw c.below_end.ensures.value (finite-below _ _ _ _ c.args.coeffs.now.encodable.finite c.requires.0 c.requires.1)

pub returns : goal.returns
returns c = run-begins c.args.coeffs.now.track.now.settings c.args.coeffs.now.values.now c.args.c c.args.b _ _ (c.extract_part.ensures ∙ ap exponents_of c.below_end.ensures.value) c.lower_by_reuse.ensures
