-- The strategy of the bins below end, or the refusal in order.
use Rattle.shaping.proofs.Costing.{picked-front}
use borrow.Author.Tests.{le-leb, lt-leb}
use Rattle.shaping.specs.Strategies.{pick_answer}
use Rattle.shaping.proofs.strategies.pick_strategy_for_block.Goals as goal

pub returns-then-end-gt256 : goal.returns-then-end-gt256
unfolding pick_answer
returns-then-end-gt256 c = simp (lt-leb _ _ c.if-end-gt256.true)

pub returns-then-exp-gt256 : goal.returns-then-exp-gt256
unfolding pick_answer
returns-then-exp-gt256 c = simp (le-leb _ _ c.if-end-gt256.false, lt-leb _ _ c.if-exp-gt256.true)

pub returns-then-exp-end : goal.returns-then-exp-end
unfolding pick_answer
returns-then-exp-end c = simp (le-leb _ _ c.if-end-gt256.false, le-leb _ _ c.if-exp-gt256.false, lt-leb _ _ c.if-exp-end.true)

pub returns : goal.returns
unfolding pick_answer
returns c =
    let x = c.args in
    let e = picked-front x.exp.now x.end c.strategy_of.result c.strategy_of.ensures in
    simp (le-leb _ _ c.if-end-gt256.false, le-leb _ _ c.if-exp-gt256.false, le-leb _ _ c.if-exp-end.false, ← e)
