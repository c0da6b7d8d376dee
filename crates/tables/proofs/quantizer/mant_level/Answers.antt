-- In the arm of each bap the array is the list of its levels, by computation.
use mathlib.Core.Path.{◌≡◌}
use native.Mathlib.Omega.{arith}
use lib.Ieee.{round, of_bits}
use Rattle.tables.specs.Quantizer.{level_count, levels}
use Rattle.tables.proofs.quantizer.mant_level.Goals as goal

pub returns-in-1 : goal.returns-in-1
unfolding level_count levels round of_bits
returns-in-1 c = rw c.in-1.is

pub returns-in-2 : goal.returns-in-2
unfolding level_count levels round of_bits
returns-in-2 c = rw c.in-2.is

pub returns-in-3 : goal.returns-in-3
unfolding level_count levels round of_bits
returns-in-3 c = rw c.in-3.is

pub returns-in-4 : goal.returns-in-4
unfolding level_count levels round of_bits
returns-in-4 c = rw c.in-4.is

pub returns-in_default : goal.returns-in_default
unfolding level_count levels round of_bits
returns-in_default c = let five : c.args.bap ≡ 5 = omega arith in rw five
