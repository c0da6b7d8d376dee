-- The rule of the LFE, or that of the other channels.
use Rattle.sheet.proofs.ranges.end_in_range.Goals as goal

pub returns : goal.returns
returns c = cc
