use mathlib.Core.Path.{◌≡◌, ◌∙◌}
use native.Mathlib.Omega.{arith}
use Prim.Native.Nat.{◌+◌}
use Rattle.excitation.specs.BandPsd.{joined_psd}
use Rattle.excitation.specs.BandPsdLaws.{joined_psd-more, joined_psd-most}
use lib.ListN.{length}
use Rattle.excitation.proofs.Joining.{behind-long, behind-first}
use Rattle.excitation.proofs.psd_integration.joined_psd.Goals as goal

pub loop-exponent-init : goal.loop-exponent-init
unfolding joined_psd
loop-exponent-init c = c.psd-joined.ensures

pub logadd-joined-requires : goal.logadd-joined-requires
logadd-joined-requires c = (omega (arith, joined_psd-most c.args.bins.now 0 (c.loop-exponent.exponent-index + 1)), omega arith)

pub loop-exponent-preserved : goal.loop-exponent-preserved
loop-exponent-preserved c =
    let bins = c.args.bins.now in
    let l = c.loop-exponent in
    c.logadd-joined.ensures ∙ joined_psd-more bins 0 (l.exponent-index + 1) _ _ (omega arith) l.invariant (behind-first bins _ _ c.loop-exponent-test.true c.psd.ensures)

pub returns : goal.returns
returns c =
    let l = c.loop-exponent in
    let e : l.exponent-index + 1 ≡ length c.args.bins.now = omega (arith, behind-long c.args.bins.now, c.requires.least, c.loop-exponent-test.false, l.auto.exponent-index-end) in
    rw e at l.invariant
