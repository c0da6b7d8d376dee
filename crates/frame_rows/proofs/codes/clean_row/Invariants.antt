-- The parts before channel c are clean.
use mathlib.Core.Path.{◌≡◌}
use Prim.Native.Nat.{◌*◌}
use lib.ListN.{take}
use Rattle.sheet.specs.Settings.{end_at}
use Rattle.bits.specs.Parts.{joined, piece}
use Rattle.frame.specs.Layout.{clean}
use Rattle.frame_rows.proofs.codes.clean_row.Given as goal

abbrev pub invariant-loop-c : goal.invariant-loop-c
invariant-loop-c l = take (256 * l.c) l.to ≡ joined l.c (λ j. clean (end_at l.track.settings j) (piece 256 j l.codes))
