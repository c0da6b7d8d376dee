-- The field joins the bits that wait, and the whole bytes of them are stored.
use native.Mathlib.Omega.{arith}
use lib.Pow.{pow_pos}
use Rattle.bits.proofs.Storing.{one_shl, put-flushed}
use Rattle.bits.proofs.write.put.Goals as goal

pub overflow_sub-low : goal.overflow_sub-low
overflow_sub-low c =
    let n = c.args.n in
    rw (one_shl n (omega arith)) (pow_pos n)

pub returns : goal.returns
returns c =
    let all = put-flushed _ _ _ _ _ _ (omega arith) (omega arith) c.flush.ensures (λ i. omega (arith, c.type_inv.out i)) in
    record { put = all.0; result_value = all.1.0; out_after = all.1.1 }
