-- What is lent lies below the end.
use mathlib.Core.Path.{ap, ◌∙◌}
use lib.ListN.{length}
use Rattle.frame_runs.specs.RunsLaws.{below-lent, whole_below}
use Rattle.frame_runs.proofs.below.below_end.Goals as goal

pub returns : goal.returns
returns g c =
    let lent = below-lent c.channels-n.ensures _ _ _ c.part_start-a.ensures c.end_at.ensures c.args.buffer.now in
    record { value = lent; len = ap length lent ∙ whole_below c.args.track.now.settings c.args.b c.args.c c.args.buffer.now c.args.track.now.legal c.requires.0 c.requires.1 c.requires.2 }
