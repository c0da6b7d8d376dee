-- The length is the size that the record says.
use Rattle.sheet.proofs.read.is_whole.Goals as goal

pub returns : goal.returns
returns c = cc
