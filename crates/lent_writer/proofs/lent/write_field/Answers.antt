-- What `write_u32` put at the front and `close` closed is what a step alone stores.
use Rattle.std.proofs.Common.{arith}
use Rattle.bits.specs.Field.{field}
use Rattle.bits.specs.WriteLaws.{step-stored}
use Rattle.lent_writer.proofs.lent.write_field.Goals as goal

pub returns-clause-out_after : goal.returns-clause-out_after
returns-clause-out_after c =
    let put = rw c.start-w.ensures at c.write_u32.ensures.put in
    step-stored c.args.out.now c.write_u32.new.out c.close.new.out c.write_u32.new.w (field c.args.n c.args.v) c.close.result (omega (arith, put.long)) put c.close.ensures.value c.close.ensures.out_after
