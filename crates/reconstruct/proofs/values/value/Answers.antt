-- The quotient of the whole numbers, and its sign.
use Rattle.reconstruct.specs.BinLaws.{Sized, value-below, value-above, whole-fits}
use Rattle.reconstruct.proofs.values.value.Goals as goal
use Rattle.reconstruct.proofs.values.value.Goals.{Start}

sized : (c : Start) → Sized c.args.f
sized c = record { size-most = c.requires.0; over-least = c.requires.1; over-most = c.requires.2 }

pub int_to_float-v : goal.int_to_float-v
int_to_float-v c = whole-fits _ c.requires.0

pub int_to_float-v-2 : goal.int_to_float-v-2
int_to_float-v-2 c = whole-fits _ c.requires.2

pub returns-then-f : goal.returns-then-f
returns-then-f c = value-below _ (sized (goal.at.returns-then-f c).Start) c.if-f.true

pub returns-else-f : goal.returns-else-f
returns-else-f c = value-above _ (sized (goal.at.returns-else-f c).Start) c.if-f.false
