-- The blocks before block b are made.
use mathlib.Core.Path.{◌≡◌}
use mathlib.Core.List.{map}
use Prim.Native.Nat.{◌*◌}
use lib.ListN.{take}
use Rattle.bits.specs.Parts.{joined}
use Rattle.frame.specs.Layout.{row_of}
use Rattle.reconstruct.specs.Bin.{flag_of, level_of}
use Rattle.reconstruct.specs.Copy.{copy_row}
use Rattle.reconstruct.proofs.rows.reconstruct_frame.Given as goal

abbrev pub invariant-loop-b : goal.invariant-loop-b
invariant-loop-b l = (take (256 * l.n * l.b) l.has_level ≡ joined l.b (λ j. map flag_of (copy_row l.track.settings (row_of l.track.settings j l.exps) (row_of l.track.settings j l.codes)))) × (take (256 * l.n * l.b) l.levels ≡ joined l.b (λ j. map level_of (copy_row l.track.settings (row_of l.track.settings j l.exps) (row_of l.track.settings j l.codes))))
