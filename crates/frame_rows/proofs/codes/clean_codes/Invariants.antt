-- The rows before block b are clean.
use mathlib.Core.Path.{◌≡◌}
use Prim.Native.Nat.{◌*◌}
use lib.ListN.{take}
use Rattle.bits.specs.Parts.{joined}
use Rattle.frame.specs.Layout.{row_of, clean_row}
use Rattle.frame_rows.proofs.codes.clean_codes.Given as goal

abbrev pub invariant-loop-b : goal.invariant-loop-b
invariant-loop-b l = take (256 * l.n * l.b) l.to ≡ joined l.b (λ j. clean_row l.track.settings (row_of l.track.settings j l.codes))
