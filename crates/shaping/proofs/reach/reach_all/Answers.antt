-- The two steps, from buffers of bins that allow any exponent, leave what `limited` leaves.
use mathlib.Core.Path.{refl}
use Prim.Native.Nat.{◌+◌, ◌-◌}
use lib.ListN.{length}
use Rattle.shaping.proofs.Reaching.{tops-long, tops-most, near-length, near-most, reached-all}
use native.Mathlib.Omega.{arith}
use Rattle.shaping.proofs.reach.reach_all.Goals as goal

pub pad_near-requires : goal.pad_near-requires
pad_near-requires c =
    let a = c.args in
    let e = a.exp.now in
    let t = c.pad_tops in
    let l = tops-long a.limit (omega arith) (omega arith) e t.new.tops t.new.tops (6 + length e - 0) (16 + length e) (omega arith) refl t.ensures in
    record {
      in_bounds = (l.0, omega (arith, l.1));
      near_len = (refl, refl);
      by_index = tops-most a.limit (omega arith) (omega arith) e t.new.tops t.new.tops (6 + length e - 0) (16 + length e) (omega arith) refl t.ensures;
    }

pub reach_far-requires : goal.reach_far-requires
reach_far-requires c =
    let a = c.args in
    let e = a.exp.now in
    let t = c.pad_tops in
    let n = c.pad_near in record {
      from_len = near-length a.limit (omega arith) (omega arith) e t.new.tops n.new.near (6 + length e - 0) (16 + length e - 0) (omega arith) (omega arith) t.ensures n.ensures;
      by_index = near-most a.limit (omega arith) (omega arith) e t.new.tops n.new.near (6 + length e - 0) (16 + length e - 0) (omega arith) (omega arith) t.ensures n.ensures;
    }

pub returns : goal.returns
returns c =
    let a = c.args in
    let e = a.exp.now in
    let t = c.pad_tops in
    let n = c.pad_near in
    reached-all a.limit (omega arith) (omega arith) e t.new.tops n.new.near (6 + length e - 0) (16 + length e - 0) (omega arith) (omega arith) t.ensures n.ensures _ c.reach_far.ensures
