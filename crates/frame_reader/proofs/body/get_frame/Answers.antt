-- The rows are the fronts of two local arrays of 0.
use Rattle.std.specs.Prelude.{ℕ, ◌*◌, length, replicate}
use Rattle.std.proofs.Common.{ap, ◌∙◌, arith}
use Rattle.std.proofs.lemmas.List.{length-replicate, take-replicate}
use Rattle.sheet.specs.Settings.{channels}
use Rattle.sheet.specs.Sizes.{most_row}
use Rattle.frame_reader.proofs.body.get_frame.Goals as goal

pub get_blocks-requires-clause-row_value : goal.get_blocks-requires-clause-row_value
get_blocks-requires-clause-row_value c =
    let many = c.channels-z.ensures in
    let row = take-replicate {X = ℕ} (256 * c.channels-z.result) most_row 0 (omega (arith, many.most)) ∙ ap (λ (n : ℕ). replicate {A = ℕ} (256 * n) 0) many.is in
    (row, ap length row ∙ length-replicate (256 * channels c.args.track.now.settings) 0)
