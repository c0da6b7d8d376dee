-- Each way to answer is one of the laws of the writer's answer; a refused call leaves the output, an accepted one stores the bits.
use Rattle.bits.specs.Write.{place}
use mathlib.Core.Path.{◌≡◌, refl}
use native.Mathlib.Nat.{sub-zero}
use lib.ListN.{length}
use Rattle.bits.specs.Tests.{held_false, held_true}
use Rattle.bits.specs.WriteLaws.{step-stored, output-stored, output-left}
use Rattle.shaping.proofs.ShapedLaws.{shaped-yes}
use Rattle.sheet.specs.RangesLaws.{end-bounds}
use Rattle.exponents.proofs.Answers.{range-parts, length-parts, written-shape, written-room, written_all}
use native.Mathlib.Omega.{arith}
use Rattle.exponents.proofs.write.write_exponents_grouped.Goals as goal

pub slice_bounds-is_shaped-end : goal.slice_bounds-is_shaped-end
slice_bounds-is_shaped-end c =
    let x = c.args in
    omega (arith, length-parts x.end (length x.exp.now) c.in_ok-strategy.ensures.fits)

pub returns-then-not-is_shaped : goal.returns-then-not-is_shaped
returns-then-not-is_shaped c =
    let d = rw (sub-zero, c.grpsize.ensures) at (held_false c.is_shaped.ensures c.if-not-is_shaped.true) in
    record {
      value = written-shape _ _ _ _ _ c.in_ok-strategy.ensures d;
      out_after = output-left _ _ _ _;
    }

pub set_groups-requires : goal.set_groups-requires
set_groups-requires c =
    let x = c.args in
    let n = end-bounds x.end (range-parts x.end x.grpsize c.in_ok-strategy.ensures.ranged).0 in
    omega arith

pub returns-then-out-div_ceil : goal.returns-then-out-div_ceil
returns-then-out-div_ceil c =
    let d = rw (sub-zero, c.grpsize.ensures) at (held_true c.is_shaped.ensures c.if-not-is_shaped.false) in
    record {
      value = written-room _ _ _ _ _ c.in_ok-strategy.ensures d (omega arith);
      out_after = output-left _ _ _ _;
    }

pub put_exponents-w-requires : goal.put_exponents-w-requires
put_exponents-w-requires c =
    let x = c.args in
    let t = c.in_ok-strategy.ensures in
    let d = rw (sub-zero, c.grpsize.ensures) at (held_true c.is_shaped.ensures c.if-not-is_shaped.false) in
    record {
      end_value = ((range-parts x.end x.grpsize t.ranged).0, (length-parts x.end (length x.exp.now) t.fits).1);
      shaped = shaped-yes _ _ d;
      ready = rw c.start.ensures (record { few = omega arith; small = omega arith; room = omega arith });
    }

pub finish-requires : goal.finish-requires
finish-requires c =
    let p = c.put_exponents-w.ensures.put in
    let s : place c.start.result ≡ 0 = rw c.start.ensures refl in
    record { few = p.few; small = p.small; room = omega arith }

pub returns : goal.returns
returns c =
    let x = c.args in
    let t = c.in_ok-strategy.ensures in
    let d = rw (sub-zero, c.grpsize.ensures) at (held_true c.is_shaped.ensures c.if-not-is_shaped.false) in
    let s : place c.start.result ≡ 0 = rw c.start.ensures refl in
    let p = rw (c.start.ensures, t.own) at c.put_exponents-w.ensures.put in record {
      value = rw c.set_groups.ensures.0 (written_all x.exp.now x.end x.grpsize (length x.out.now) _ t d (omega arith));
      out_after = output-stored _ _ _ _ (step-stored _ _ _ _ _ _ (omega arith) p c.finish.ensures.value c.finish.ensures.out_after);
    }
