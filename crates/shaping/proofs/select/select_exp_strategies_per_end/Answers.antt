-- The six rows, or why the call is turned back.
use mathlib.Core.Path.{sym}
use borrow.Author.Rules.{rules}
use Rattle.bits.specs.Parts.{tab, joined}
use mathlib.Core.List.{[]}
use Rattle.std.proofs.lemmas.List.FromFn.{fill_by_all}
use Rattle.shaping.specs.Strategies.{strategy_row, selected}
use Rattle.shaping.specs.Inner.{Selectable}
use Rattle.shaping.specs.StrategyLaws.{selectable}
use Rattle.bits.proofs.Arrays.{asked-each}
use Rattle.shaping.proofs.select.select_exp_strategies_per_end.Goals as goal

pub from_fn-requires : goal.from_fn-requires
from_fn-requires c =
    let s : Selectable c.args.exps.now c.args.ends.now = selectable _ _ (sym c.in_ok-select_check.ensures) in
    (search rules, asked-each (λ x q r. search rules) (λ x l. search (rules, s)))

pub returns : goal.returns
unfolding selected tab joined
returns c =
    let x = c.args in
    let row = strategy_row x.exps.now x.ends.now in
    let i = c.from_fn.ensures.items in
    let all = fill_by_all row c.from_fn.result 6 [] i.long (λ k h. let w = i.at k [] h in search rules) in
    simp (sym c.in_ok-select_check.ensures, all)
