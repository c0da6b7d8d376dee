use mathlib.Core.Path.{◌≡◌, refl}
use Prim.Native.Nat.{◌+◌, ◌-◌}
use Rattle.shaping.proofs.Sweep.{least_more, least-over}
use native.Mathlib.Omega.{arith}
use Rattle.shaping.proofs.spans.least_from.Goals as goal

pub loop-j-init : goal.loop-j-init
loop-j-init c =
    let a = c.args in
    let h : a.h - 0 ≡ a.h = omega arith in
    let k : a.i + 1 + 0 ≡ a.i + 1 = omega arith in
    (omega arith, rw (h, k) refl)

pub overflow_add-i-in-loop-j : goal.overflow_add-i-in-loop-j
overflow_add-i-in-loop-j c = omega (arith, c.loop-j.invariant.0)

pub returns-then-exp-i : goal.returns-then-exp-i
returns-then-exp-i c =
    let l = c.loop-j in
    let a = c.args in
    least-over a.exp.now _ (a.h - l.j) l.m (a.i + 1 + l.j) l.invariant.1 (λ p. c.if-exp-i.true)

pub loop-j-preserved : goal.loop-j-preserved
loop-j-preserved c =
    let l = c.loop-j in
    let a = c.args in
    (omega arith, least_more a.exp.now _ (a.h - l.j) l.m (a.i + 1 + l.j) _ (a.h - (l.j + 1)) (a.i + 1 + (l.j + 1)) l.invariant.1 c.min-m.ensures (omega arith) (omega arith) (omega arith))

pub returns : goal.returns
returns c =
    let l = c.loop-j in
    let a = c.args in
    least-over a.exp.now _ (a.h - l.j) l.m (a.i + 1 + l.j) l.invariant.1 (λ p. omega arith)
