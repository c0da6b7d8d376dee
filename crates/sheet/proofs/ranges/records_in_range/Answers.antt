-- Each record is asked for.
use mathlib.Core.Path.{◌∙◌}
use borrow.Author.Rules.{rules}
use borrow.Author.Tests.{tests}
use Rattle.std.proofs.lemmas.Iterator.Consumers.{YieldsList-from_first}
use Rattle.std.proofs.lemmas.Iterator.Search.{all_from_yields_List}
use Rattle.sheet.specs.Grammar.{count_off, records_of}
use Rattle.sheet.specs.Ranges.{record_in_range}
use Rattle.sheet.proofs.Counting.{all-every}
use Rattle.sheet.proofs.ranges.records_in_range.Goals as goal

pub returns : goal.returns
returns c =
    all_from_yields_List (record_in_range c.args.common) c.all.new.self _ c.all.result c.all.ensures.ran
    (YieldsList-from_first (λ y. y.now) (λ s. count_off 0 s.rest.now) (records_of c.args.sheet.now) c.of.ensures.records)
    (λ x b q k. search (rules, tests))
    ∙ all-every (record_in_range c.args.common) (records_of c.args.sheet.now)
