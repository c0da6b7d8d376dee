-- After b blocks both of their counts are stored.
use mathlib.Core.Path.{◌≡◌}
use lib.ListN.{length, take, drop}
use Rattle.bits.specs.Parts.{tab}
use Rattle.mantissas.specs.Blocks.{block_baps}
use Rattle.mantissas.specs.Stream.{bit_count}
use Rattle.frame_body.specs.Writing.{sets_count}
use Rattle.frame_body.proofs.count.count_body.Given as goal

abbrev pub invariant-loop-b : goal.invariant-loop-b
invariant-loop-b l =
    (length l.counts ≡ 12)
    × (take l.b l.counts ≡ tab l.b (sets_count l.track.settings))
    × (take l.b (drop 6 l.counts) ≡ tab l.b (λ j. bit_count (block_baps l.track.settings l.bap j)))
