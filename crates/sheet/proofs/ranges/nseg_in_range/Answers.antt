-- Up to eight segments, and none for the LFE.
use mathlib.Core.Path.{refl}
use Rattle.sheet.proofs.ranges.nseg_in_range.Goals as goal

pub returns : goal.returns
returns c = refl
