use Prim.Native.Nat.{◌+◌}
use lib.ListN.{length-set}
use Rattle.shaping.proofs.Sharing.{gather-start, gather-turn, gather-done}
use native.Mathlib.Omega.{arith}
use Rattle.shaping.proofs.spans.gather.Goals as goal

pub loop-i-init : goal.loop-i-init
loop-i-init g c =
    let a = c.args in
    (omega arith, omega arith, rw length-set (omega arith), gather-start a.exp.now a.to.now g.row.H a.k _ (omega arith) (omega arith) c.least_from.ensures)

pub loop-i-preserved : goal.loop-i-preserved
loop-i-preserved g c =
    let a = c.args in
    let l = c.loop-i in (
      omega arith,
      omega arith,
      rw length-set (omega arith),
      gather-turn a.exp.now l.to _ g.row.H l.i l.c _ l.invariant.3 (omega arith) (omega arith) c.least_from-in-loop-i.ensures,
    )

pub returns : goal.returns
returns g c =
    let a = c.args in
    let l = c.loop-i in
    (omega arith, gather-done a.exp.now l.to _ g.row.H l.i l.c l.invariant.3 (omega arith))

pub returns-2 : goal.returns-2
returns-2 g c =
    let a = c.args in
    let l = c.loop-i in
    let t = gather-turn a.exp.now l.to _ g.row.H l.i l.c _ l.invariant.3 (omega arith) (omega arith) c.least_from-in-loop-i.ensures in
    (omega arith, gather-done a.exp.now _ _ g.row.H (l.i + (g.row.H + 1)) (l.c + 1) t (omega arith))
