-- The levels before i are told.
use mathlib.Core.Path.{◌≡◌}
use Prim.Native.Nat.{ℕ, ◌<◌}
use lib.ListN.{length, get_or}
use Rattle.std.specs.Float.{binary32}
use Rattle.std.specs.Float.Ieee.{to_bits}
use Rattle.tables.specs.Quantizer.{level, level_count}
use Rattle.edges.proofs.tables_printed.levels_bits.Given as goal

abbrev pub invariant-loop-i : goal.invariant-loop-i
invariant-loop-i g l = (length l.bits ≡ g.row.L) × ((k : ℕ) → k < l.i → get_or l.bits k 0 ≡ to_bits binary32 (level (level_count l.bap) k))
