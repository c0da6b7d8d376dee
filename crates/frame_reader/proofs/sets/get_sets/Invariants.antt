-- Channel by channel, in place over the old row.
use Rattle.bits.specs.Field.{bits_of}
use Rattle.frame_reader.proofs.SetsTurns.{SetsRead}
use Rattle.frame_reader.proofs.sets.get_sets.Given as goal

abbrev pub invariant-loop-c : goal.invariant-loop-c
invariant-loop-c l = SetsRead l.track.settings l.b l.initial.row (bits_of l.input) l.pos l.c l.row l.at
