-- The seven tests of a record.
use Rattle.sheet.proofs.ranges.record_in_range.Goals as goal

pub returns : goal.returns
returns c = cc
