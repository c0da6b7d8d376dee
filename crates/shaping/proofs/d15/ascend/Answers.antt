use mathlib.Core.Path.{refl}
use lib.ListN.{length-set}
use Rattle.shaping.specs.Reach.{ascended}
use Rattle.shaping.proofs.Descent.{ascended-head}
use Rattle.shaping.proofs.Sweep.{sweep-turn, sweep-done}
use native.Mathlib.Omega.{arith}
use Rattle.shaping.proofs.d15.ascend.Goals as goal

pub loop-i-preserved : goal.loop-i-preserved
loop-i-preserved c =
    let l = c.loop-i in (
      rw length-set (omega arith),
      rw length-set l.invariant.1,
      omega arith,
      sweep-turn (ascended l.v) (ascended c.min-v.result) l.exp _ l.i _ l.invariant.3 (omega arith) (ascended-head l.v _ _ _ c.min-v.ensures),
    )

pub returns : goal.returns
unfolding ascended
returns c =
    let l = c.loop-i in
    sweep-done (ascended l.v) l.exp _ l.i l.invariant.3 refl (omega arith)
