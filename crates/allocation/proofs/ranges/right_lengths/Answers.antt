-- The tests as they are.
use mathlib.Core.Path.{refl}
use Rattle.allocation.specs.Allocation.{right_lengths}
use Rattle.allocation.proofs.ranges.right_lengths.Goals as goal

pub returns : goal.returns
unfolding right_lengths
returns c = refl
