-- After c channels the bits of their sets are appended.
use Rattle.sheet.specs.Settings.{end_at, set_at}
use Rattle.bits.specs.Parts.{joined, piece}
use Rattle.bits.specs.Write.{Put}
use Rattle.frame.specs.Body.{set_bits}
use Rattle.frame_body.proofs.write.put_sets.Given as goal

abbrev pub invariant-loop-c : goal.invariant-loop-c
invariant-loop-c l = Put l.initial.out l.initial.w (joined l.c (λ j. set_bits (set_at l.track.settings l.b j) (end_at l.track.settings j) (piece 256 j l.row))) l.out l.w
