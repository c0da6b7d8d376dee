-- The values are the least of each span; shaped and spread, they are `shared`.
use Rattle.shaping.proofs.Sharing.{values-part, values-fit, shared-all}
use native.Mathlib.Omega.{arith}
use Rattle.shaping.proofs.spans.share.Goals as goal

pub shape_spans-requires : goal.shape_spans-requires
shape_spans-requires g c =
    let a = c.args in
    let t = c.gather-c in
    let f = values-fit a.exp.now t.new.to t.result g.row.H a.k t.ensures.1 t.ensures.0 (omega arith) (omega arith) in
    record {
      k_in_bounds = f.0;
      exp_len_bound = (omega arith, omega arith, omega arith);
      values_len_bound = (f.1, omega arith, omega arith);
    }

pub returns : goal.returns
returns g c =
    let a = c.args in
    let t = c.gather-c in
    shared-all a.exp.now _ _ a.limit g.row.H a.k c.shape_spans.ensures (values-part a.exp.now t.new.to t.result g.row.H a.k t.ensures.1)
