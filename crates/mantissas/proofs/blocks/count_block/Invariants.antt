-- After c channels: their baps are weighed.
use Rattle.std.proofs.Common.{◌≡◌, ◌*◌, ◌^◌, ◌≤◌}
use Rattle.bits.specs.Parts.{joined}
use Rattle.mantissas.specs.Blocks.{part_baps}
use Rattle.mantissas.specs.Tally.{tally_of}
use Rattle.mantissas.proofs.blocks.count_block.Given as goal

abbrev pub invariant-loop-c : goal.invariant-loop-c
invariant-loop-c l = (l.tally ≡ tally_of (joined l.c (part_baps l.track.settings l.bap l.block))) × (l.tally ≤ 2 ^ 38 * (256 * l.c))
