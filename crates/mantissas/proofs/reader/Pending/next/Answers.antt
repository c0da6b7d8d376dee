-- The first digit, and the number of the others.
use Rattle.mantissas.proofs.Reading.{waiting-cons}
use Rattle.mantissas.proofs.reader.Pending.next.Goals as goal

pub returns-clause-codes : goal.returns-clause-codes
returns-clause-codes c = rw c.from-value.ensures (waiting-cons c.args.b c.args.self _ c.requires.1 c.values-rest.ensures.value)
