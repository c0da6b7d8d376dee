-- The bits of the body from the first bit of the output on, then closed.
use Rattle.bits.specs.WriteLaws.{step-stored}
use native.Mathlib.Omega.{arith}
use Rattle.frame_body.proofs.write.store_body.Goals as goal

pub returns : goal.returns
returns c =
    let p = rw c.start.ensures at c.put_body-w.ensures in
    step-stored _ _ _ _ _ _ (omega (arith, p.long)) p c.finish.ensures.value c.finish.ensures.out_after
