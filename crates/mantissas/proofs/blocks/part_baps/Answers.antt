-- The part starts where it should, and its end is that of its channel.
use Rattle.mantissas.proofs.Joining.{part-taken}
use Rattle.mantissas.proofs.blocks.part_baps.Goals as goal

pub returns-clause-baps : goal.returns-clause-baps
returns-clause-baps c = part-taken _ _ c.channels.ensures.is c.end_at.ensures.is c.part_start-start.ensures
