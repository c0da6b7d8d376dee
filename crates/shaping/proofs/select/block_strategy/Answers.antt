-- The part that is lent is the channel's block, below its end.
use mathlib.Core.Path.{refl}
use Rattle.shaping.proofs.Costing.{picked-block}
use Rattle.shaping.proofs.select.block_strategy.Goals as goal

pub returns : goal.returns
returns c =
    let x = c.args in
    picked-block x.exps.now x.ends.now _ _ _ _ _ c.from-end.result _ refl refl refl c.from-end.ensures c.strategy_of.ensures
