use mathlib.Core.Path.{◌≡◌, refl}
use native.Mathlib.Omega.{arith}
use lib.ListN.{length-set}
use Rattle.bits.specs.PartsLaws.{tab-start, tab-more}
use Rattle.tables.proofs.Rules.{masktab-one}
use Rattle.allocation.specs.Held.{bap_from}
use Rattle.allocation.proofs.Filling.{held-read, from-base}
use Rattle.allocation.proofs.bap.fill_singles.Goals as goal

pub loop-bin-init : goal.loop-bin-init
loop-bin-init c =
    let a = c.args in
    (tab-start (bap_from a.bases.now a.exp.now) a.bap.now, omega arith, refl)

pub held_pointer-requires : goal.held_pointer-requires
held_pointer-requires c = c.requires.by_index _ c.loop-bin-test.true

pub loop-bin-preserved : goal.loop-bin-preserved
loop-bin-preserved c =
    let l = c.loop-bin in
    let v = held-read _ _ _ (c.requires.band_bases.2 l.bin) c.held_pointer.ensures in
    (tab-more _ _ _ _ (omega arith) l.invariant.0 (from-base _ _ _ _ _ (masktab-one l.bin (omega arith)) v), omega arith, rw length-set l.invariant.2)

pub shape_of-bap : goal.shape_of-bap
shape_of-bap c = c.loop-bin.invariant.2

pub returns : goal.returns
returns c =
    let l = c.loop-bin in
    let e : l.bin ≡ c.args.bins = omega arith in
    rw e at l.invariant.0
