-- The values are shaped, then spread.
use native.Mathlib.Omega.{arith}
use Rattle.shaping.proofs.spans.shape_spans.Goals as goal

pub spread_out-requires : goal.spread_out-requires
spread_out-requires g c =
    let p = c.requires in
    record {
      k_in_bounds = rw c.shape.auto.exp p.k_in_bounds;
      exp_len_bound = (omega arith, omega arith, omega arith);
    }

pub returns : goal.returns
returns g c = rw c.shape.ensures at c.spread_out.ensures
