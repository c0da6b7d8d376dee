use mathlib.Core.Path.{refl}
use Rattle.frame.specs.Body.{total}
use Rattle.frame_body.proofs.Counting.{total-turn, total-within}
use native.Mathlib.Omega.{arith}
use Rattle.frame_body.proofs.count.body_size.Goals as goal

pub loop-count-init : goal.loop-count-init
unfolding total
loop-count-init c = refl

pub overflow_add-size : goal.overflow_add-size
overflow_add-size c = omega (arith, total-within c.args.counts c.loop-count.count-index _ (omega arith) c.loop-count.invariant)

pub loop-count-preserved : goal.loop-count-preserved
loop-count-preserved c = total-turn c.args.counts c.loop-count.count-index _ (omega arith) c.loop-count.invariant
