-- Picked in blocks 0 and 3, reuse elsewhere.
use Rattle.shaping.proofs.Costing.{row-there, row-none}
use Rattle.shaping.proofs.select.strategy_row.Goals as goal

pub returns-then-channel-ends : goal.returns-then-channel-ends
returns-then-channel-ends c =
    let x = c.args in
    row-there x.exps.now x.ends.now x.channel _ _ c.if-channel-ends.true c.block_strategy-first.ensures c.block_strategy-second.ensures

pub returns : goal.returns
returns c =
    let x = c.args in
    row-none x.exps.now x.ends.now x.channel c.if-channel-ends.false
