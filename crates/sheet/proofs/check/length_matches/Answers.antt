-- Both tests on the length.
use Rattle.sheet.proofs.check.length_matches.Goals as goal

pub returns : goal.returns
returns c = cc
