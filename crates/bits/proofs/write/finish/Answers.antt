-- `bits::finish` closes with zero bits to the byte: the output is the bytes of what was written, and behind them what was there.
use native.Mathlib.Omega.{arith}
use Rattle.bits.specs.WriteLaws.{closed-count, closed-output}
use Rattle.bits.proofs.write.finish.Goals as goal

pub returns : goal.returns
returns c =
    let p = c.put-r.ensures.put in record {
      value = closed-count _ _ _ _ _ (omega arith) (omega arith) p;
      out_after = closed-output _ _ _ _ _ (omega arith) (omega arith) p (omega arith) (λ i. omega (arith, c.type_inv.out i));
    }
