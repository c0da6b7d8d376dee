use mathlib.Core.Path.{◌≡◌, refl}
use native.Mathlib.Omega.{arith}
use lib.ListN.{length-set}
use Rattle.excitation.specs.FrontLaws.{front-none, front-more}
use Rattle.allocation.specs.Held.{held_base, base_by}
use Rattle.allocation.proofs.bap.band_bases.Invariants.{base}
use Rattle.allocation.proofs.bap.band_bases.Goals as goal

pub loop-band-init : goal.loop-band-init
loop-band-init c = (omega arith, front-none _ _, refl)

pub band_base-requires : goal.band_base-requires
band_base-requires c =
    let k = c.loop-band.band in
    (c.requires.small.0, omega arith, c.requires.band_arrays.4 k, c.requires.band_arrays.6 k, c.requires.band_arrays.5 k)

pub loop-band-preserved : goal.loop-band-preserved
unfolding base
loop-band-preserved c =
    let l = c.loop-band.invariant in
    (omega arith, front-more _ _ _ _ _ (omega (arith, c.loop-band-test.true, c.requires.bands_bound, l.2)) l.1 c.band_base.ensures, rw length-set l.2)

pub returns : goal.returns
unfolding base base_by held_base
returns c =
    let e : c.loop-band.band ≡ c.args.bands = omega arith in
    rw e at c.loop-band.invariant.1
