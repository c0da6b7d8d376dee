-- The parts before channel c are legal.
use mathlib.Core.Path.{◌≡◌}
use Rattle.sheet.specs.Settings.{end_at, set_at}
use Rattle.bits.specs.Parts.{piece}
use Rattle.sheet.specs.Ranges.{all_below}
use Rattle.frame.specs.Legal.{part_legal}
use Rattle.frame_rows.proofs.legal.row_legal.Given as goal

abbrev pub invariant-loop-c : goal.invariant-loop-c
invariant-loop-c l = l.all ≡ all_below l.c (λ j. part_legal (set_at l.track.settings l.b j) (end_at l.track.settings j) (piece 256 j l.old) (piece 256 j l.row))
