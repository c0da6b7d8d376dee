-- The rows before block b are allocated, and `row` holds what a reuse channel of block b keeps.
use mathlib.Core.Path.{◌≡◌}
use Prim.Native.Nat.{◌*◌, ◌<◌}
use lib.ListN.{length, take}
use Rattle.bits.specs.Parts.{joined}
use Rattle.sheet.specs.Sizes.{most_row}
use Rattle.frame.specs.Body.{bap_row}
use Rattle.frame.specs.Layout.{row_of}
use Rattle.frame_rows.specs.Inner.{KeptBap}
use Rattle.frame_rows.proofs.rows.allocate_body.Given as goal

abbrev pub invariant-loop-b : goal.invariant-loop-b
invariant-loop-b l =
    record {
      long : length l.row ≡ most_row;
      kept : l.b < 6 → KeptBap l.track.settings l.b (row_of l.track.settings l.b l.exps) (take (256 * l.n) l.row);
      filled : take (256 * l.n * l.b) l.bap ≡ joined l.b (λ j. bap_row l.track.settings (row_of l.track.settings j l.exps));
    }
