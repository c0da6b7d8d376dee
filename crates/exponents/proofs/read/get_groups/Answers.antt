use mathlib.Core.Path.{◌≡◌, sym, ◌∙◌}
use Rattle.std.specs.Prelude.{Err}
use Rattle.std.proofs.Common.{rules}
use Prim.Native.Nat.{◌<◌, ◌≤◌, ◌+◌, ◌*◌}
use lib.ListN.{length, length-set}
use Rattle.bits.specs.Field.{bits_of}
use Rattle.bits.specs.FieldLaws.{length-bits_of}
use Rattle.bits.specs.ReadLaws.{found-value, found-past}
use Rattle.bits.specs.ReadingLaws.{steps-start, steps-again, steps-fault}
use Rattle.bits.specs.declared.refusal.Refusal.TheVariants as refusal
use Rattle.elements.specs.Strategy.{grpsize}
use Rattle.shaping.specs.GroupsLaws.{is_span-grpsize}
use Rattle.exponents.specs.Groups.{group_count}
use Rattle.sheet.specs.RangesLaws.{end-bounds}
use Rattle.exponents.specs.Reading.{read_groups}
use Rattle.exponents.proofs.Turns.{there, not-there, turn-past, turn-bad, turn-good, first-set, groups-done}
use native.Mathlib.Omega.{arith}
use Rattle.exponents.proofs.read.get_groups.Goals as goal

pub set_groups-groups-requires : goal.set_groups-groups-requires
set_groups-groups-requires c =
    let n = end-bounds (length c.args.exp.now) c.requires.exp_value in
    omega arith

pub bounds-exp-0 : goal.bounds-exp-0
bounds-exp-0 c =
    let n = end-bounds (length c.args.exp.now) c.requires.exp_value in
    omega arith

pub loop-i-init : goal.loop-i-init
loop-i-init c =
    let x = c.args in
    let n = end-bounds (length x.exp.now) c.requires.exp_value in
    let z : x.pos + 0 ≡ x.pos = omega arith in
    (simp length-set, omega arith, omega arith, omega arith, rw (z, first-set x.exp.now x.first (omega arith)) (steps-start _ _ _))

pub returns-in_err-v-clause-came : goal.returns-in_err-v-clause-came
unfolding read_groups
returns-in_err-v-clause-came c =
    let x = c.args in
    let l = c.loop-i in
    let k : c.from_residual.result ≡ Err (record { refusal = refusal.PastInput; pos = x.pos + 7 * l.i }) = search rules in
    let past = found-past _ (sym c.get.ensures ∙ not-there _ _ _ c.in_err-v.ensures.value) in
    let g : l.i < group_count (length x.exp.now) (grpsize x.strategy) = omega arith in
    rw k (record {
      is = steps-fault _ l.i _ _ _ _ _ _ g l.invariant.4 (turn-past _ _ _ _ _ past);
      within = rw length-bits_of l.invariant.3;
      later = omega arith;
    })

pub returns-in_err-p-clause-came : goal.returns-in_err-p-clause-came
unfolding read_groups
returns-in_err-p-clause-came c =
    let x = c.args in
    let l = c.loop-i in
    let k : c.from_residual-in_err-p.result ≡ Err (record { refusal = refusal.BadGroup; pos = x.pos + 7 * l.i + 7 }) = search rules in
    let f = found-value 7 (x.pos + 7 * l.i) (bits_of x.input.now) _ (sym c.get.ensures ∙ there _ _ _ c.in_ok-v.ensures.value) in
    let none = not-there _ _ _ c.in_err-p.ensures.value in
    let bad = rw (none, l.invariant.0) at c.place_group.ensures.exp_value in
    let g : l.i < group_count (length x.exp.now) (grpsize x.strategy) = omega arith in
    rw k (record {
      is = steps-fault _ l.i _ _ _ _ _ _ g l.invariant.4 (turn-bad _ _ _ _ _ _ _ f.0 bad);
      within = rw length-bits_of (omega (arith, rw length-bits_of at f.1));
      later = omega arith;
    })

pub loop-i-preserved : goal.loop-i-preserved
loop-i-preserved c =
    let x = c.args in
    let l = c.loop-i in
    let f = found-value 7 (x.pos + 7 * l.i) (bits_of x.input.now) _ (sym c.get.ensures ∙ there _ _ _ c.in_ok-v.ensures.value) in
    let some = there _ _ _ c.in_ok-p.ensures.value in
    let good = rw (some, l.invariant.0) at c.place_group.ensures.exp_value in
    let bounds = rw (some, l.invariant.0) at c.place_group.ensures.bounds in
    let n : x.pos + 7 * (l.i + 1) ≡ x.pos + 7 * l.i + 7 = omega arith in (
      c.place_group.auto.exp ∙ l.invariant.0,
      bounds.0,
      bounds.1,
      omega (arith, rw length-bits_of at f.1),
      rw n (steps-again _ l.i _ _ _ _ _ l.invariant.4 (turn-good _ _ _ _ _ _ _ _ f.0 good)),
    )

pub returns : goal.returns
unfolding read_groups
returns c =
    let x = c.args in
    let l = c.loop-i in
    let e : l.i ≡ c.set_groups-groups.result = omega arith in
    let q = rw (e, c.set_groups-groups.ensures.0) at l.invariant.4 in
    let n : x.pos + 7 * c.set_groups-groups.result ≤ 8 * length x.input.now = omega arith in
    record {
      came = record {
        is = rw c.set_groups-groups.ensures.0 (groups-done _ _ _ l.p l.exp _ _ c.requires.exp_value (is_span-grpsize x.strategy) (omega arith) l.invariant.0 (omega arith) q);
        within = rw length-bits_of n;
        later = omega arith;
      };
      pos_bound_2 = omega arith;
    }
