-- After c channels: whether the baps of their parts fit.
use Rattle.std.proofs.Common.{◌≡◌}
use Rattle.bits.specs.Parts.{joined}
use Rattle.mantissas.specs.Blocks.{part_baps}
use Rattle.mantissas.specs.Stream.{baps_fit}
use Rattle.mantissas.proofs.blocks.check_block.Given as goal

abbrev pub invariant-loop-c : goal.invariant-loop-c
invariant-loop-c l = l.all ≡ baps_fit (joined l.c (part_baps l.track.settings l.bap l.block))
