-- The bytes of the record, then the record by value.
use Rattle.sheet.proofs.record.record_of.Goals as goal

pub returns : goal.returns
returns c = cc
