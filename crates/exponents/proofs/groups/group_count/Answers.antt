-- `exponents::group_count` is the number of groups of shaping, which at these ends is at most 84.
use mathlib.Core.Bool.{Bool, true, false, cond}
use Prim.Native.Nat.{ℕ, ◌+◌, ◌-◌, ◌/◌, ◌≤◌}
use native.Mathlib.Omega.{arith}
use lib.Dec.{eqb}
use Rattle.exponents.specs.Groups.{group_count}
use Rattle.exponents.proofs.groups.group_count.Goals as goal

at_most : (d15 d25 : Bool) (end : ℕ) → end ≤ 253 → cond d15 ((end - 1) / 3) (cond d25 ((end - 1 + 3) / 6) ((end - 1 + 9) / 12)) ≤ 84
at_most true d25 end h = omega arith
at_most false true end h = omega arith
at_most false false end h = omega arith

pub returns : goal.returns
unfolding group_count
returns c =
    let a = c.args in
    let e = c.groups_of.ensures.0 in
    (e, omega (arith, at_most (eqb a.grpsize 1) (eqb a.grpsize 2) a.end (omega arith)))
