-- The three tests as they are.
use Rattle.allocation.specs.Allocation.{in_range}
use Rattle.allocation.proofs.ranges.in_range.Goals as goal

pub returns : goal.returns
unfolding in_range
returns c = cc
