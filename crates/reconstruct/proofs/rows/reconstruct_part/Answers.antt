-- The bins below end, then the zeros.
use mathlib.Core.Path.{◌≡◌, ◌∙◌}
use native.Mathlib.Omega.{arith}
use lib.ListN.{length, length-take}
use Rattle.frame_rows.specs.TwoPartsLaws.{two-parts}
use Rattle.quantiser.specs.Scale.{zero32}
use Rattle.reconstruct.specs.Bin.{flag_of, level_of}
use Rattle.reconstruct.specs.CopyLaws.{part-made}
use Rattle.reconstruct.proofs.rows.reconstruct_part.Goals as goal

pub returns : goal.returns
returns c =
    let end = length c.args.exps.now in
    let r = c.reconstruct_bins in
    let flags : length r.new.has_level ≡ end = r.auto.has_level ∙ rw length-take (omega (arith, c.requires.exps_len_bound.0, c.requires.exps_len_bound.1)) in
    let levels : length r.new.levels ≡ end = r.auto.levels ∙ rw length-take (omega (arith, c.requires.exps_len_bound.0, c.requires.exps_len_bound.2)) in record {
      has_level_after = two-parts end c.args.has_level.now r.new.has_level c.requires.exps_len_bound.1 c.requires.exps_len_bound.0 flags 0 _ (c.fill.ensures.after (λ y q. q)) ∙ part-made flag_of end _ _ _ _ r.ensures.has_level_after;
      levels_after = two-parts end c.args.levels.now r.new.levels c.requires.exps_len_bound.2 c.requires.exps_len_bound.0 levels zero32 _ (c.fill-2.ensures.after (λ y q. q)) ∙ part-made level_of end _ _ _ _ r.ensures.levels_after;
    }
