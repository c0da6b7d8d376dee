-- The tests as they are.
use mathlib.Core.Path.{refl}
use Rattle.allocation.specs.Allocation.{common_codes}
use Rattle.allocation.proofs.ranges.common_codes.Goals as goal

pub returns : goal.returns
unfolding common_codes
returns c = refl
