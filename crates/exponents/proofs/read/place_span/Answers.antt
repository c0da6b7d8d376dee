-- A pad leaves the slice; an exponent outside 0..24 is none; else the next span's bins are stored.
use Rattle.elements.specs.Strategy.{grpsize}
use Rattle.exponents.proofs.Placing.{place-pad, place-below, place-above, place-good}
use native.Mathlib.Omega.{arith}
use Rattle.exponents.proofs.read.place_span.Goals as goal

pub returns-then-p-end-clause-exp_value : goal.returns-then-p-end-clause-exp_value
returns-then-p-end-clause-exp_value c =
    let a = c.args in
    place-pad a.exp.now a.p (grpsize a.strategy) a.d c.if-p-end.true (omega arith)

pub returns-then-sum-lt2-clause-exp_value : goal.returns-then-sum-lt2-clause-exp_value
returns-then-sum-lt2-clause-exp_value c =
    let a = c.args in
    place-below a.exp.now a.p (grpsize a.strategy) a.d (omega arith) (omega arith) (omega arith)

pub returns-then-sum-gt26-clause-exp_value : goal.returns-then-sum-gt26-clause-exp_value
returns-then-sum-gt26-clause-exp_value c =
    let a = c.args in
    place-above a.exp.now a.p (grpsize a.strategy) a.d (omega arith) (omega arith) (omega arith)

pub returns-clause-exp_value : goal.returns-clause-exp_value
returns-clause-exp_value c =
    let a = c.args in
    place-good a.exp.now a.p (grpsize a.strategy) a.d (omega arith) (omega arith) c.min-to.result _ _ (c.fill.ensures.after (λ y e. e)) (omega (arith, c.grpsize.ensures))
    (omega arith) (omega arith) (omega arith)
