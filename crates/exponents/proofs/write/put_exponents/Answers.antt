use mathlib.Core.Path.{◌≡◌, refl, ◌∙◌}
use Prim.Native.Nat.{◌<◌}
use lib.ListN.{take}
use Rattle.bits.specs.WriteLaws.{and_then, turn-start, turn-put}
use Rattle.exponents.specs.Groups.{group_count, group_bits}
use Rattle.elements.specs.Strategy.{grpsize}
use Rattle.shaping.specs.GroupsLaws.{is_span-grpsize}
use Rattle.sheet.specs.RangesLaws.{end-bounds}
use Rattle.exponents.specs.GroupsLaws.{count-inside}
use Rattle.exponents.proofs.Coding.{set-bits}
use native.Mathlib.Omega.{arith}
use Rattle.exponents.proofs.write.put_exponents.Goals as goal

pub set_groups-groups-requires : goal.set_groups-groups-requires
set_groups-groups-requires c =
    let n = end-bounds c.args.end c.requires.end_value.0 in
    omega arith

pub bounds-exp-0 : goal.bounds-exp-0
bounds-exp-0 c =
    let n = end-bounds c.args.end c.requires.end_value.0 in
    omega arith

pub loop-i-init : goal.loop-i-init
loop-i-init c = (refl, turn-start _ _ _ (omega arith) (omega arith), omega arith)

pub group_at-requires : goal.group_at-requires
group_at-requires c =
    let a = c.args in
    let p = c.requires in
    let l = c.loop-i in
    let n = end-bounds a.end p.end_value.0 in
    let g : l.i < group_count a.end (grpsize a.strategy) = omega arith in
    record {
      in_bounds = (p.end_value.1, n.most, omega arith, count-inside a.end (grpsize a.strategy) l.i p.end_value.0 (is_span-grpsize a.strategy) g);
      shaped = p.shaped;
    }

pub put-w-requires-in-loop-i : goal.put-w-requires-in-loop-i
put-w-requires-in-loop-i c =
    let p = c.loop-i.invariant.1 in
    record {
      n_bound = omega arith;
      ready = record { few = p.few; small = p.small; room = omega arith };
    }

pub loop-i-preserved : goal.loop-i-preserved
loop-i-preserved c =
    let a = c.args in
    let l = c.loop-i in
    let p = rw c.group_at.ensures at c.put-w-in-loop-i.ensures.put in
    (c.put-w-in-loop-i.auto.out ∙ l.invariant.0, turn-put (group_bits (grpsize a.strategy) (take a.end a.exp.now)) l.i l.invariant.1 p, omega arith)

pub returns : goal.returns
returns c =
    let a = c.args in
    let n = end-bounds a.end c.requires.end_value.0 in
    let e : c.loop-i.i ≡ group_count a.end (grpsize a.strategy) = omega arith in
    record {
      put = rw (set-bits (grpsize a.strategy) a.end a.exp.now (omega arith) (omega arith)) (and_then (rw c.from.ensures at c.put-w.ensures.put) (rw e at c.loop-i.invariant.1));
      result_value = omega arith;
    }
