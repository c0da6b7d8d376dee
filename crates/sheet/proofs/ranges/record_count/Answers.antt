-- Those of the channel are counted.
use mathlib.Core.Path.{ap, ◌∙◌}
use lib.Dec.{eqb}
use lib.ListN.{length}
use native.Mathlib.Omega.{arith}
use borrow.Author.Rules.{rules}
use borrow.Author.Tests.{tests}
use Rattle.std.proofs.Common.{inl}
use Rattle.std.proofs.lemmas.Iterator.Consumers.{YieldsList-from_first, YieldsList-at, YieldsList-from_filter, count_from_yields_List}
use Rattle.sheet.specs.Grammar.{count_off, records_of}
use Rattle.sheet.specs.Record.{channel_of}
use Rattle.sheet.proofs.Counting.{filter-of_channel}
use Rattle.sheet.proofs.ranges.record_count.Goals as goal

pub count-requires-clause-fits : goal.count-requires-clause-fits
count-requires-clause-fits c = inl (rw (c.filter.ensures.source, c.of.ensures.records) (omega (arith, c.of.ensures.count_fits)))

pub returns : goal.returns
returns c =
    let rs = records_of c.args.sheet.now in
    count_from_yields_List c.filter.result _ c.count.ensures.ran
    (YieldsList-from_filter _ (λ r. eqb (channel_of r) c.args.channel)
    (YieldsList-at c.filter.ensures.source (YieldsList-from_first (λ y. y.now) (λ s. count_off 0 s.rest.now) rs c.of.ensures.records))
    c.filter.ensures.closure
    (λ x b q k. search (rules, tests)))
    ∙ ap length (filter-of_channel c.args.channel rs)
