use lib.ListN.{length-set}
use Rattle.bits.specs.PartsLaws.{tab-start, tab-more, tab-end}
use Rattle.shaping.specs.Reach.{topped_at, topped}
use native.Mathlib.Omega.{arith}
use Rattle.shaping.proofs.reach.hold_tops.Goals as goal

pub loop-i-init : goal.loop-i-init
loop-i-init c =
    let a = c.args in (
      tab-more (topped_at a.limit a.exp.now) a.to.now 0 _ (omega arith) (tab-start (topped_at a.limit a.exp.now) a.to.now) (omega (arith, c.min.ensures)),
      omega arith,
      rw length-set (omega arith),
      rw length-set (omega arith),
    )

pub loop-i-preserved : goal.loop-i-preserved
loop-i-preserved c =
    let a = c.args in
    let l = c.loop-i in (
      tab-more (topped_at a.limit a.exp.now) l.to l.i _ (omega arith) l.invariant.0 (omega (arith, c.min-in-loop-i.ensures)),
      omega arith,
      rw length-set (omega arith),
      rw length-set l.invariant.3,
    )

pub returns : goal.returns
unfolding topped
returns c =
    let a = c.args in
    let l = c.loop-i in
    tab-end (topped_at a.limit a.exp.now) l.to l.i _ (omega arith) l.invariant.3 l.invariant.0
