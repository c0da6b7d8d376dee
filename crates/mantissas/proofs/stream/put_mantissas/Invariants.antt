-- What is written and the fields from bin i on are the stream; each way through the body is a law of Writing.antt.
use Rattle.std.proofs.Common.{◌≡◌, length}
use Rattle.mantissas.proofs.Writing.{Writing}
use Rattle.mantissas.proofs.stream.put_mantissas.Given as goal

abbrev pub invariant-loop-i : goal.invariant-loop-i
invariant-loop-i l = Writing l.bap l.codes l.initial.out l.initial.w l.out l.w l.left l.i × (length l.out ≡ length l.initial.out) × (length l.left ≡ 16)
