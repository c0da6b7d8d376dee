-- After some blocks: whether their baps fit.
use Rattle.std.proofs.Common.{◌≡◌}
use Rattle.bits.specs.Parts.{joined}
use Rattle.mantissas.specs.Blocks.{block_baps}
use Rattle.mantissas.specs.Stream.{baps_fit}
use Rattle.mantissas.proofs.blocks.check_blocks.Given as goal

abbrev pub invariant-loop-block : goal.invariant-loop-block
invariant-loop-block l = l.all ≡ baps_fit (joined l.block (block_baps l.track.settings l.bap))
