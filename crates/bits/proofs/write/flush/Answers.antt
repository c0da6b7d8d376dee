-- No byte, one or two are stored: what was written stays the same bits, and the bytes behind stay.
use native.Mathlib.Omega.{arith}
use lib.ListN.{length-set}
use Rattle.bits.proofs.Storing.{byte_fits, flushed-none, flushed-then}
use Rattle.bits.proofs.write.flush.Goals as goal

pub returns-then-count-lt8 : goal.returns-then-count-lt8
returns-then-count-lt8 c = flushed-none _ _ (omega arith)

pub overflow_cast-out : goal.overflow_cast-out
overflow_cast-out c = search byte_fits

pub returns-then-high-lt8 : goal.returns-then-high-lt8
returns-then-high-lt8 c = flushed-then _ _ _ _ (omega arith) (omega arith) (flushed-none _ _ (omega arith))

pub overflow_cast-out-2 : goal.overflow_cast-out-2
overflow_cast-out-2 c = search byte_fits

pub bounds-out-next : goal.bounds-out-next
bounds-out-next c = rw length-set (omega arith)

pub returns : goal.returns
returns c = flushed-then _ _ _ _ (omega arith) (omega arith) (flushed-then _ _ _ _ (rw length-set (omega arith)) (omega arith) (flushed-none _ _ (omega arith)))
