-- The level is a number, so its bits are told.
use mathlib.Core.Path.{ap}
use native.Mathlib.Omega.{arith}
use Rattle.std.specs.Float.{binary32}
use Rattle.std.specs.Float.Ieee.{to_bits}
use Rattle.tables.specs.Levels.{level-not-nan}
use Rattle.tables.proofs.Rules.{level_count-most}
use Rattle.edges.proofs.Within.{levels-long, level-read}
use Rattle.edges.proofs.tables_printed.level_bits.Goals as goal

pub offset_bounds-mant_level-i : goal.offset_bounds-mant_level-i
offset_bounds-mant_level-i c = omega (arith, c.requires.2, level_count-most c.args.bap)

pub bounds-mant_level-i : goal.bounds-mant_level-i
bounds-mant_level-i c = omega (arith, c.requires.2, levels-long _ _ c.mant_level.ensures)

pub float_to_bits-result : goal.float_to_bits-result
float_to_bits-result c = rw (level-read _ _ c.mant_level.ensures c.args.i c.requires.2) (level-not-nan _ _)

pub returns : goal.returns
returns c = ap (to_bits binary32) (level-read _ _ c.mant_level.ensures c.args.i c.requires.2)
