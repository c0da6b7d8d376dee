-- The pointers by the bases of the bands are those by the arrays.
use Rattle.std.proofs.Common.{refl, sym, ◌∙◌, arith}
use Rattle.allocation.proofs.Filling.{bases-fit, filled-by}
use Rattle.allocation.proofs.Allocating as law
use Rattle.allocation.proofs.bap.fill_bins.Goals as goal

pub by_fours-requires : goal.by_fours-requires
by_fours-requires c = c.requires.bands.few

pub band_bases-bases-requires : goal.band_bases-bases-requires
band_bases-bases-requires c = record { bands_bound = c.by_fours.ensures.1; small = c.requires.small; band_arrays = c.requires.band_arrays }

pub fill_by_bases-requires : goal.fill_by_bases-requires
fill_by_bases-requires c =
    let r = c.requires in
    record {
      exp_len = (omega (arith, law.bins-long _ _ r.end_bound.1), law.bins-long _ _ r.end_bound.1 ∙ sym (law.bins-long _ _ r.end_bound.2));
      by_index = law.bins-most _ _ r.end_bound.1 r.by_index;
      band_bases = bases-fit _ _ _ _ _ _ _ _ c.by_fours.ensures.1 c.band_bases-bases.ensures refl;
    }

pub returns : goal.returns
returns c =
    let r = c.requires in
    let many = c.by_fours.ensures in
    filled-by _ _ _ _ _ _ _ _ many.1 c.band_bases-bases.ensures refl _ _ _ _ r.small.2 r.band_arrays.7 r.end_bound.0 r.bands many.0 r.by_index
    (law.bins-filled _ _ c.args.bap.now _ _ r.end_bound.1 r.end_bound.2 c.fill_by_bases.ensures).1
