-- A power of two up to 2^24 is an f32.
use lib.Dec.{le→leb}
use lib.Pow.{pow_mono}
use lib.Ieee.{in_float}
use Rattle.quantiser.proofs.scale.power_f32.Goals as goal

pub int_to_float-result : goal.int_to_float-result
unfolding in_float
int_to_float-result c = rw c.power.ensures (le→leb _ _ (pow_mono c.requires))
