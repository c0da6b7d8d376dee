-- The call at each bap gave its levels.
use Rattle.std.proofs.Common.{rules}
use Rattle.tables.specs.Entry.{entry}
use Rattle.mantissas.proofs.code.level_table.Goals as goal

pub returns : goal.returns
unfolding entry
returns c = (c.from_fn.ensures.items.long, λ k h. let w = c.from_fn.ensures.items.at k 0 h in search rules)
