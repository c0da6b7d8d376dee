-- An end below 37 is refused; from there on the other two tests decide.
use borrow.Author.Tests.{lt-leb, le-leb}
use Rattle.sheet.proofs.ranges.full_end.Goals as goal

pub returns-then-end-lt37 : goal.returns-then-end-lt37
returns-then-end-lt37 c = simp (lt-leb 37 _ c.if-end-lt37.true)

pub returns : goal.returns
returns c = simp (le-leb 37 _ c.if-end-lt37.false)
