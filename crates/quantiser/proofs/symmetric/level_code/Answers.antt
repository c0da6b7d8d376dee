-- The levels are at most fifteen.
use Rattle.std.proofs.Common.{ℕ, ◌≤◌, ◌<◌, leb, leb→le, arith}
use Rattle.tables.specs.Computed.{at-index}
use Rattle.tables.specs.Entry.{entry}
use Rattle.tables.specs.Quantizer.{level_count, level_counts}
use Rattle.quantiser.specs.CodeLaws.{length-levels}
use Rattle.quantiser.proofs.symmetric.level_code.Goals as goal

few : (b : ℕ) → b < 6 → level_count b ≤ 15
unfolding level_count level_counts entry
few b h = leb→le _ _ (at-index 6 (λ (k : ℕ). leb (level_count k) 15) tt b h)

pub nearest_symmetric-requires : goal.nearest_symmetric-requires
nearest_symmetric-requires c = rw (c.mant_level.ensures, length-levels) (few c.args.bap (omega arith))
