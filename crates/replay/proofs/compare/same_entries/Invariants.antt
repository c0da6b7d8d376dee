-- The entries before i are the same.
use Rattle.std.proofs.Common.{◌≡◌, map, take, length}
use Rattle.bits.specs.Parts.{tab}
use Rattle.replay.proofs.compare.same_entries.Given as goal

abbrev pub invariant-loop-i : goal.invariant-loop-i
invariant-loop-i g l = take l.i (map g.T.Entry.pattern l.entries) ≡ tab l.i (g.T.Entry.entry_in (length l.entries) l.part)
