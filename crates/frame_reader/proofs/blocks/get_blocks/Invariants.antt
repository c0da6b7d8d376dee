-- Block by block: the rows that it leaves are copied into its parts of the buffers, and its counts stored.
use Prim.Native.Nat.{◌≤◌}
use Rattle.bits.specs.Field.{bits_of}
use Rattle.frame_reader.proofs.SixBlocks.{BlocksRead}
use Rattle.frame_reader.proofs.blocks.get_blocks.Given as goal

abbrev pub invariant-loop-b : goal.invariant-loop-b
invariant-loop-b l =
    (l.b ≤ 6) × BlocksRead l.track.settings (bits_of l.input) l.b l.exps l.bap l.codes l.row l.held l.counts l.at
