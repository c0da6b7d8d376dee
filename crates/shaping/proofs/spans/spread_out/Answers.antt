use mathlib.Core.Path.{refl, ◌∙◌}
use lib.ListN.{length, length-set}
use Rattle.bits.specs.PartsLaws.{tab-start, tab-more, tab-end}
use Rattle.shaping.proofs.Sharing.{value_at, value_there, spread-is}
use native.Mathlib.Omega.{arith}
use Rattle.shaping.proofs.spans.spread_out.Goals as goal

pub loop-i-init : goal.loop-i-init
loop-i-init g c =
    let a = c.args in
    (tab-start (value_at g.row.H a.k a.values.now) a.exp.now, omega arith, refl)

pub bounds-values-i : goal.bounds-values-i
bounds-values-i g c =
    let a = c.args in
    let l = c.loop-i in
    value_there g.row.H a.k (length a.exp.now) l.i a.values.now (omega arith) (omega arith)

pub loop-i-preserved : goal.loop-i-preserved
loop-i-preserved g c =
    let a = c.args in
    let l = c.loop-i in
    (tab-more (value_at g.row.H a.k a.values.now) l.exp l.i _ (omega arith) l.invariant.0 refl, rw length-set (omega arith), rw length-set l.invariant.2)

pub shape_of-exp : goal.shape_of-exp
shape_of-exp g c = c.loop-i.invariant.2

pub returns : goal.returns
returns g c =
    let a = c.args in
    let l = c.loop-i in
    tab-end (value_at g.row.H a.k a.values.now) l.exp l.i (length a.exp.now) (omega arith) l.invariant.2 l.invariant.0
    ∙ spread-is g.row.H a.k (length a.exp.now) a.values.now (omega arith) (omega arith)
