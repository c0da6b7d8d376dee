-- The blocks before b are legal; of the block before, what stands below each end decides.
use mathlib.Core.Path.{◌≡◌}
use Rattle.sheet.specs.Ranges.{all_below}
use Rattle.frame.specs.Layout.{row_of}
use Rattle.frame.specs.Legal.{row_legal}
use Rattle.frame.specs.Reader.{earlier}
use Rattle.frame_rows.proofs.legal.exps_legal.Given as goal

abbrev pub invariant-loop-b : goal.invariant-loop-b
invariant-loop-b l = l.all ≡ all_below l.b (λ j. row_legal l.track.settings j (earlier l.track.settings l.exps j) (row_of l.track.settings j l.exps))
