use mathlib.Core.Path.{◌≡◌, ap₂}
use mathlib.Core.Bool.{Bool, ◌&&◌}
use native.Mathlib.Numerals.{add-one}
use native.Mathlib.Omega.{arith}
use Rattle.sheet.specs.Settings.{channels}
use Rattle.frame.specs.Legal.{row_legal}
use Rattle.bits.specs.Walks.{lent_is}
use Rattle.frame_rows.proofs.legal.row_legal.Goals as goal

pub loop-c-preserved : goal.loop-c-preserved
loop-c-preserved c =
    let g = c.args in
    let n = c.channels-n.result in
    let i = c.loop-c.c in
    let inside = c.loop-c-test.true in
    let e = rw (lent_is 256 n i inside g.old.now, lent_is 256 n i inside g.row.now, c.end_at-end.ensures.is, c.set_at-set.ensures) at c.part_legal-all.ensures in
    rw (add-one i) (ap₂ (λ (x y : Bool). x && y) c.loop-c.invariant e)

pub returns : goal.returns
unfolding row_legal
returns c =
    let e : c.loop-c.c ≡ channels c.args.track.now.settings = omega (arith, c.channels-n.ensures.is, c.loop-c.auto) in
    rw e at c.loop-c.invariant
