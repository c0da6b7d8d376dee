-- Each value is the byte at its place.
use Rattle.sheet.proofs.record.channel_record.Goals as goal

pub returns : goal.returns
returns c = cc
