use Rattle.std.proofs.Common.{arith}
use Rattle.mantissas.specs.DigitsLaws.{below_at}
use Rattle.mantissas.proofs.Weighing.{bin-most, weigh-start, weigh-turn, weigh-end}
use Rattle.mantissas.proofs.count.weigh.Goals as goal

pub loop-b-init : goal.loop-b-init
loop-b-init c = (weigh-start c.args.bap.now c.args.tally, omega arith)

pub bounds-weights-from : goal.bounds-weights-from
bounds-weights-from c = omega (arith, below_at c.requires.below c.loop-b.b-index c.loop-b-test.true, c.from.ensures)

pub loop-b-preserved : goal.loop-b-preserved
loop-b-preserved c =
    let bs = c.args.bap.now in
    let l = c.loop-b in
    let low = c.requires.below in
    let inside = c.loop-b-test.true in
    rw c.from.ensures (weigh-turn bs l.b-index low inside _ _ l.invariant.0, omega (arith, bin-most bs l.b-index low inside))

pub returns-clause-value : goal.returns-clause-value
returns-clause-value c = weigh-end c.args.bap.now c.loop-b.b-index _ _ (omega arith) c.loop-b.invariant.0
