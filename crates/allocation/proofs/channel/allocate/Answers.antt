-- The arrays of the bands, the pointers below end, then 0: the laws of Allocating.antt.
use Rattle.std.proofs.Common.{refl, ap, ◌∙◌, arith, length}
use Rattle.bits.specs.PartsLaws.{length-tab}
use Rattle.sheet.specs.RangesLaws.{end-bounds}
use Rattle.allocation.proofs.ByBand.{array_long}
use Rattle.allocation.proofs.Allocating as law
use Rattle.allocation.proofs.channel.allocate.Goals as goal

pub hth-hth-requires : goal.hth-hth-requires
hth-hth-requires c = omega (arith, c.requires.legal_codes.fscod)

pub band_powers-bands-requires : goal.band_powers-bands-requires
band_powers-bands-requires c =
    let l = c.requires.legal_bins in
    let few = (end-bounds c.args.end l.legal).most in
    record {
      exp_len = (omega (arith, law.bins-long _ _ l.held, few), refl);
      by_index = law.bins-most _ _ l.held l.most;
    }

pub excite_bands-requires : goal.excite_bands-requires
excite_bands-requires c =
    let b = c.band_powers-bands.ensures in
    let l = c.requires.legal_bins in
    let most = law.powers-most _ _ _ b.powers_after in
    record {
      bands_bound = (b.bands.few, law.legal-bands _ _ l.legal (law.bins-bands _ _ _ l.held b.bands));
      by_index = λ k. omega (arith, most k);
    }

pub fill_bins-requires : goal.fill_bins-requires
fill_bins-requires c =
    let legal = c.requires.legal_codes in
    let l = c.requires.legal_bins in
    let b = c.band_powers-bands.ensures in
    let x = c.excite_bands.ensures in
    let h = c.hth-hth.ensures in
    let added = law.deltas-small c.args.channel.now _ (rw c.segments_in_use.ensures at c.band_deltas-added.ensures) legal.segments in
    record {
      end_bound = ((end-bounds c.args.end l.legal).most, l.held, l.room);
      bands = law.bins-bands _ _ _ l.held b.bands;
      by_index = l.most;
      small = law.parameters-small _ _ _ legal c.initialize-p.ensures;
      band_arrays = (
        ap length b.powers_after ∙ length-tab 51 _,
        array_long _ 0 _ _ _ b.bands.few x refl,
        ap length c.band_deltas-added.ensures ∙ length-tab 50 _,
        law.thresholds-long _ _ legal.fscod h,
        law.excites-small _ _ _ _ _ _ b.bands.few x refl (law.powers-most _ _ _ b.powers_after),
        added,
        law.thresholds-most _ _ h,
        law.thresholds-least _ _ legal.fscod h,
      );
    }

pub returns : goal.returns
returns c =
    let l = c.requires.legal_bins in
    let legal = c.requires.legal_codes in
    let b = c.band_powers-bands.ensures in
    let bands = law.bins-bands _ _ _ l.held b.bands in
    let few = (end-bounds c.args.end l.legal).most in
    let added = rw c.segments_in_use.ensures at c.band_deltas-added.ensures in
    let arrays = law.arrays _ _ _ _ _ _ _ _ _ _ _ c.initialize-p.ensures bands (law.bins-powers _ _ _ l.held b.powers_after) c.excite_bands.ensures refl added c.hth-hth.ensures in
    law.allocate-done _ _ legal _ few _ _ _ _ _ _ _ arrays _ _ _ (omega (arith, c.fill_bins.auto.bap, l.room)) c.fill_bins.auto.bap c.fill_bins.ensures (c.fill.ensures.after (λ y e. e))
