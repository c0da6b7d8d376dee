use Prim.Native.Nat.{ℕ, ◌-◌, ◌*◌}
use mathlib.Core.Path.{refl}
use native.Mathlib.Omega.{arith}
use lib.ListN.{get_or, length-set}
use Rattle.bits.specs.PartsLaws.{tab-start, tab-more, tab-end}
use Rattle.allocation.proofs.bap.fill_band.Goals as goal

pub loop-i-init : goal.loop-i-init
loop-i-init c =
    let a = c.args in
    (tab-start (λ (k : ℕ). get_or a.window.now (a.base - 4 * get_or a.exp.now k 0) 0) a.bap.now, omega arith, refl)

pub loop-i-smaller : goal.loop-i-smaller
loop-i-smaller c = rw length-set (omega arith)

pub loop-i-preserved : goal.loop-i-preserved
loop-i-preserved c =
    let l = c.loop-i.invariant in
    let a = c.args in
    let f : ℕ → ℕ = λ k. get_or a.window.now (a.base - 4 * get_or a.exp.now k 0) 0 in
    (tab-more f _ _ _ (omega (arith, c.loop-i-test.true, l.2)) l.0 (rw c.from.ensures refl), rw length-set (omega (arith, c.loop-i-test.true, l.2)), rw length-set l.2)

pub shape_of-bap : goal.shape_of-bap
shape_of-bap c = c.loop-i.invariant.2

pub returns : goal.returns
returns c =
    let l = c.loop-i in
    let a = c.args in
    tab-end (λ (k : ℕ). get_or a.window.now (a.base - 4 * get_or a.exp.now k 0) 0) _ l.i _ (omega arith) l.invariant.2 l.invariant.0
