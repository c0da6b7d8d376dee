use mathlib.Core.Path.{◌≡◌, ap₂, ◌∙◌}
use mathlib.Core.Bool.{Bool, ◌&&◌}
use native.Mathlib.Numerals.{add-one}
use native.Mathlib.Omega.{arith}
use Rattle.frame.specs.Legal.{exps_legal}
use Rattle.frame_rows.specs.RowsLaws.{row-lent}
use Rattle.frame_rows.specs.TestsLaws.{row-after}
use Rattle.frame_rows.proofs.legal.exps_legal.Goals as goal

pub loop-b-preserved : goal.loop-b-preserved
loop-b-preserved c =
    let g = c.args in
    let exps = g.exps.now in
    let b = c.loop-b.b in
    let e = rw (row-lent c.channels-n.ensures c.saturating_sub-before.result exps, row-lent c.channels-n.ensures b exps, c.saturating_sub-before.ensures) at c.row_legal-all.ensures in
    rw (add-one b) (ap₂ (λ (x y : Bool). x && y) c.loop-b.invariant (e ∙ row-after g.track.now.settings exps g.track.now.legal c.requires b c.loop-b-test.true))

pub returns : goal.returns
unfolding exps_legal
returns c = let e : c.loop-b.b ≡ 6 = omega (arith, c.loop-b.auto) in rw e at c.loop-b.invariant
