-- Each value is the byte at its place.
use Rattle.sheet.proofs.common_part.common_of.Goals as goal

pub returns : goal.returns
returns c = cc
