use mathlib.Core.Path.{◌∙◌}
use native.Mathlib.Numerals.{add-one}
use Rattle.shaping.specs.Strategies.{cost}
use Rattle.shaping.proofs.Sweep.{merged-head, merged-same}
use Rattle.shaping.proofs.Costing.{cost-turn, cost-done}
use native.Mathlib.Omega.{arith}
use Rattle.shaping.proofs.strategies.cost_of.Goals as goal
use Rattle.shaping.proofs.strategies.cost_of.Goals.{then-j-eq0, else-j-eq0}

pub loop-i-init : goal.loop-i-init
unfolding cost
loop-i-init g c = (omega arith, omega arith, omega arith)

pub loop-i-preserved : goal.loop-i-preserved
loop-i-preserved g c =
    let l = c.loop-i in
    let i = c.if-j-eq0 in (
      omega arith,
      omega arith,
      cost-turn c.args.exp.now _ _ l.j l.v _ l.i i.j i.v _ l.invariant.2
          (elim i.branch [
            | then-j-eq0 w ↦ merged-head _ _ _ _ _ _ _ w.if-j-eq0.true w.j-is (w.v-is ∙ rw add-one at w.least_from-v.ensures)
            | else-j-eq0 w ↦ merged-same _ _ _ _ _ _ _ w.if-j-eq0.false w.j-is w.v-is
          ])
          (c.from-sum.ensures ∙ c.saturating_sub.ensures) (omega arith),
    )

pub returns : goal.returns
returns g c =
    let l = c.loop-i in
    (cost-done c.args.exp.now _ _ l.j l.v _ l.i l.invariant.2 (omega arith), omega arith)
