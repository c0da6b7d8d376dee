-- The eight segments.
use borrow.Author.Rules.{rules}
use Rattle.std.proofs.lemmas.List.FromFn.{fill_by_all}
use Rattle.bits.proofs.Arrays.{asked-each}
use Rattle.sheet.specs.Record.{no_segment, segment_at}
use Rattle.sheet.proofs.record.eight_segments.Goals as goal

pub from_fn-requires : goal.from_fn-requires
from_fn-requires c = (search rules, asked-each (λ x q r. search rules) (λ x l. search (rules, l)))

pub returns : goal.returns
returns c =
    let i = c.from_fn.ensures.items in
    fill_by_all (segment_at c.args.bytes.now) c.from_fn.result 8 no_segment i.long (λ k h. let w = i.at k no_segment h in search rules)
