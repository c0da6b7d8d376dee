-- After some blocks: their counts are in.
use Rattle.std.proofs.Common.{◌≡◌, length, take}
use Rattle.bits.specs.Parts.{tab}
use Rattle.mantissas.specs.Blocks.{block_baps}
use Rattle.mantissas.specs.Stream.{bit_count}
use Rattle.mantissas.proofs.blocks.count_blocks.Given as goal

abbrev pub invariant-loop-block : goal.invariant-loop-block
invariant-loop-block l =
    (take l.block l.counts ≡ tab l.block (λ b. bit_count (block_baps l.track.settings l.bap b))) × (length l.counts ≡ 6)
