-- The sets of the six blocks.
use Rattle.sheet.proofs.record.blocks_of.Goals as goal

pub returns : goal.returns
returns c = cc
