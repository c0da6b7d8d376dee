-- A shift of 1 by at most 24 stays within 32 bits.
use Rattle.quantiser.specs.ScaleLaws.{power-is}
use Rattle.quantiser.proofs.scale.power.Goals as goal

pub returns : goal.returns
returns c = power-is c.args.k c.requires
