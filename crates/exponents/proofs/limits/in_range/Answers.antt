-- The two tests as they are.
use Rattle.exponents.proofs.limits.in_range.Goals as goal

pub returns : goal.returns
returns c = cc
