-- The counts so far are summed.
use mathlib.Core.Path.{◌≡◌}
use lib.ListN.{take}
use Rattle.frame.specs.Body.{total}
use Rattle.frame_body.proofs.count.body_size.Given as goal

abbrev pub invariant-loop-count : goal.invariant-loop-count
invariant-loop-count l = l.size ≡ total (take l.count-index l.fn.counts)
