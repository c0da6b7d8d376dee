-- The callees' contracts, one in the other.
use Rattle.std.specs.Float.Ieee.{neg, of_bits}
use Rattle.quantiser.specs.Scale.{scaled}
use Rattle.quantiser.proofs.scale.scale.Goals as goal

pub returns : goal.returns
unfolding scaled neg of_bits
returns c = rw (c.clamp.ensures.value, c.power_f32.ensures)
