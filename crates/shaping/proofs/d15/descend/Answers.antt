use mathlib.Core.Path.{refl}
use lib.ListN.{length-set}
use Rattle.shaping.proofs.Descent.{descent-start, descent-turn, descent-done}
use native.Mathlib.Omega.{arith}
use Rattle.shaping.proofs.d15.descend.Goals as goal

pub loop-i-init : goal.loop-i-init
loop-i-init c =
    let s = descent-start c.args.exp.now _ refl in
    (omega arith, refl, omega arith, s.0, s.1)

pub loop-i-preserved : goal.loop-i-preserved
loop-i-preserved c =
    let l = c.loop-i in
    let t = descent-turn c.args.exp.now l.exp l.v c.min-v.result l.i c.min.result (omega arith) (omega arith) l.invariant.3 l.invariant.4
    c.min.ensures c.min-v.ensures in
    (omega arith, rw length-set l.invariant.1, omega arith, t.0, t.1)

pub returns : goal.returns
returns c = descent-done _ _ c.loop-i.i (omega arith) c.loop-i.invariant.4
