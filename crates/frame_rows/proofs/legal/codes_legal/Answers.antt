use mathlib.Core.Path.{◌≡◌, ap₂}
use mathlib.Core.Bool.{Bool, ◌&&◌}
use Prim.Native.Nat.{◌*◌}
use native.Mathlib.Numerals.{add-one}
use native.Mathlib.Omega.{arith}
use Rattle.frame.specs.Layout.{row_of}
use Rattle.bits.specs.Walks.{lent_is}
use Rattle.frame_rows.specs.Tests.{rows_coded}
use Rattle.frame_rows.proofs.legal.codes_legal.Goals as goal

pub loop-b-preserved : goal.loop-b-preserved
loop-b-preserved c =
    let g = c.args in
    let b = c.loop-b.b in
    let z = 256 * c.channels-n.result in
    let inside = c.loop-b-test.true in
    let e = rw (lent_is z 6 b inside g.bap.now, lent_is z 6 b inside g.codes.now) at c.check_codes-all.ensures in
    rw (add-one b) (ap₂ (λ (x y : Bool). x && y) c.loop-b.invariant e)

pub returns : goal.returns
unfolding rows_coded row_of
returns c =
    let e : c.loop-b.b ≡ 6 = omega (arith, c.loop-b.auto) in
    rw (e, c.channels-n.ensures.is) at c.loop-b.invariant
