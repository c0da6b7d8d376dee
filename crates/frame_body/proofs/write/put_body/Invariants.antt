-- After b blocks their bits are appended.
use Rattle.bits.specs.Parts.{joined}
use Rattle.bits.specs.Write.{Put}
use Rattle.frame.specs.Layout.{row_of}
use Rattle.frame.specs.Body.{block_bits}
use Rattle.frame_body.proofs.write.put_body.Given as goal

abbrev pub invariant-loop-b : goal.invariant-loop-b
invariant-loop-b l = Put l.initial.out l.initial.w (joined l.b (λ j. block_bits l.track.settings j (row_of l.track.settings j l.exps) (row_of l.track.settings j l.codes))) l.out l.w
