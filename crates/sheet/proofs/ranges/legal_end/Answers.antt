-- The end of the LFE, or one of the others.
use Rattle.sheet.proofs.ranges.legal_end.Goals as goal

pub returns : goal.returns
returns c = cc
