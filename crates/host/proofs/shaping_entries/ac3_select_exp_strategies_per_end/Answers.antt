-- What is accepted has at most six channels.
use Rattle.std.proofs.Common.{◌∙◌, sym, ◌*◌, length}
use borrow.Author.Tests.{eqb-true}
use Rattle.bits.specs.Tests.{held_true}
use Rattle.host.proofs.Rows.{few-channels}
use Rattle.host.proofs.shaping_entries.ac3_select_exp_strategies_per_end.Goals as goal

pub return_rows-requires : goal.return_rows-requires
return_rows-requires c =
    let a = c.args in (
      few-channels a.exps.now a.ends.now _ (sym c.select_exp_strategies_per_end-answer.ensures ∙ c.in-Ok.is),
      eqb-true (length a.strategies.now) (6 * length a.ends.now) (held_true c.six_each.ensures c.if-not-six_each.false),
    )
