-- A group with no pads is worked out from its four exponents, the last one span by span: the number is the definition's group.
use mathlib.Core.Path.{◌∙◌}
use Prim.Native.Nat.{◌-◌}
use mathlib.Core.Path.{◌≡◌}
use Rattle.elements.specs.Strategy.{grpsize}
use Rattle.elements.specs.StrategyLaws.{grpsize-least}
use Rattle.exponents.proofs.Coding.{whole-near, whole_is, first-near, second-near, third-near, group-is}
use native.Mathlib.Omega.{arith}
use Rattle.exponents.proofs.groups.group_at.Goals as goal

pub whole_group-requires : goal.whole_group-requires
whole_group-requires c =
    let a = c.args in
    let e = c.grpsize-grpsize.ensures in
    let t = rw e at c.if-last-end.true in
    rw e (whole-near (grpsize a.strategy) a.end a.exp.now a.i (grpsize-least a.strategy) c.requires.shaped (omega arith) t)

pub returns-then-last-end : goal.returns-then-last-end
returns-then-last-end c =
    let a = c.args in
    let e = c.grpsize-grpsize.ensures in
    let t = rw e at c.if-last-end.true in
    (rw e at c.whole_group.ensures) ∙ whole_is (grpsize a.strategy) a.end a.exp.now a.i (grpsize-least a.strategy) c.requires.shaped (omega arith) t

pub difference_at-requires-clause-near : goal.difference_at-requires-clause-near
difference_at-requires-clause-near c =
    let a = c.args in
    let z : a.end - 0 ≡ a.end = omega arith in
    rw (z, c.grpsize-grpsize.ensures) (first-near (grpsize a.strategy) a.end a.exp.now a.i (grpsize-least a.strategy) c.requires.shaped (omega arith))

pub difference_at-requires-2-clause-near : goal.difference_at-requires-2-clause-near
difference_at-requires-2-clause-near c =
    let a = c.args in
    let z : a.end - 0 ≡ a.end = omega arith in
    rw (z, c.grpsize-grpsize.ensures) (second-near (grpsize a.strategy) a.end a.exp.now a.i (grpsize-least a.strategy) c.requires.shaped (omega arith))

pub difference_at-requires-3-clause-near : goal.difference_at-requires-3-clause-near
difference_at-requires-3-clause-near c =
    let a = c.args in
    let z : a.end - 0 ≡ a.end = omega arith in
    rw (z, c.grpsize-grpsize.ensures) (third-near (grpsize a.strategy) a.end a.exp.now a.i (grpsize-least a.strategy) c.requires.shaped (omega arith))

pub returns : goal.returns
returns c =
    let a = c.args in
    let z : a.end - 0 ≡ a.end = omega arith in
    let e = group-is (grpsize a.strategy) a.end a.exp.now a.i (grpsize-least a.strategy) c.requires.shaped (omega arith) in
    rw (c.difference_at.ensures.0, c.difference_at-2.ensures.0, c.difference_at-3.ensures.0, z, c.grpsize-grpsize.ensures) e
