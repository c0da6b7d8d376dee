-- `bits::get` answers as `read_field` does: where the field's last bit lies past the input's bytes there is none, else `peek` has it.
use Rattle.std.proofs.Common.{refl, arith}
use Rattle.bits.specs.Field.{read_field, take_field}
use Rattle.bits.specs.Read.{found}
use Rattle.bits.proofs.Gathering.{past_end}
use Rattle.bits.proofs.read.get.Goals as goal

pub returns-then-n-eq0 : goal.returns-then-n-eq0
unfolding found read_field take_field
returns-then-n-eq0 c = rw c.if-n-eq0.true refl

pub returns-then-input-pos : goal.returns-then-input-pos
unfolding found
returns-then-input-pos c = let a = c.args in rw (past_end a.input.now a.pos a.n (omega arith) (omega arith))

pub returns : goal.returns
unfolding found
returns c = rw c.peek.ensures.input_value
