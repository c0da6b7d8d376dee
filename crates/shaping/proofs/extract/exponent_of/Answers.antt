-- A finite coefficient is a number, whose pattern is read.
use Rattle.shaping.specs.FloatLaws.{finite_number}
use Rattle.shaping.proofs.extract.exponent_of.Goals as goal

pub float_to_bits-field : goal.float_to_bits-field
float_to_bits-field c = finite_number c.args.x c.requires
