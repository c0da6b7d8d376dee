-- The fronts of the local buffers hold the frame of the coefficients.
use Prim.Native.Nat.{ℕ, ◌-◌, ◌*◌}
use mathlib.Core.List.{List, ◌++◌}
use mathlib.Core.Path.{◌≡◌, ◌∙◌}
use lib.ListN.{length, take, drop, replicate}
use Rattle.std.proofs.lemmas.List.{length-replicate}
use Rattle.sheet.specs.LegalSettings.{ChannelCount}
use Rattle.sheet.specs.Sizes.{most_buffer}
use Rattle.sheet.specs.declared.settings.Settings.{Settings}
use Rattle.frame.specs.Answers.{body_left}
use Rattle.frame.specs.Body.{body_bits, baps_of}
use Rattle.frame_rows.specs.RowsLaws.{front-filled}
use Rattle.frame_runs.specs.Runs.{exps_of}
use Rattle.frame_encoder.specs.Codes.{codes_of}
use Rattle.frame_encoder.specs.CodesLegal.{encoded-made}
use Rattle.frame_encoder.specs.Encode.{encoded_bits}
use Rattle.frame_encoder.proofs.encode.encode_accepted.Goals as goal

abbrev zeros : List ℕ
zeros = replicate most_buffer 0

abbrev filled : ℕ → List ℕ → List ℕ
filled n y = take (256 * n * 6 - 0) (y ++ drop (256 * n * 6 - 0) zeros)

is-filled : {settings : Settings} {n : ℕ} → ChannelCount settings n → (y new : List ℕ) → length y ≡ length (take (256 * n * 6 - 0) zeros) → y ≡ new → filled n y ≡ new
is-filled many y new kept q = front-filled _ zeros (length-replicate {A = ℕ} most_buffer 0) many.most y kept ∙ q

pub invariant_of-frame : goal.invariant_of-frame
invariant_of-frame c =
    let f = c.args.coeffs.now in
    let settings = f.track.now.settings in
    let many = c.channels.ensures in
    let m = c.make_frame in
    rw (
      is-filled many m.new.shaped (exps_of settings f.values.now) m.auto.shaped m.ensures.shaped_after,
      is-filled many m.new.allocated (baps_of settings (exps_of settings f.values.now)) m.auto.allocated m.ensures.allocated_after,
      is-filled many m.new.quantised (codes_of settings f.values.now) m.auto.quantised m.ensures.quantised_after,
    )
    (record { made = encoded-made settings f.values.now f.track.now.legal f.encodable })

pub returns-clause-body_after : goal.returns-clause-body_after
unfolding encoded_bits
returns-clause-body_after c =
    let f = c.args.coeffs.now in
    let many = c.channels.ensures in
    let n = c.channels.result in
    let m = c.make_frame in
    let r = c.deliver.result in
    let body : c.deliver.new.body ≡ body_left r (body_bits f.track.now.settings (filled n m.new.shaped) (filled n m.new.quantised)) c.args.body.now = c.deliver.ensures.body_after in
    rw (is-filled many m.new.shaped _ m.auto.shaped m.ensures.shaped_after, is-filled many m.new.quantised _ m.auto.quantised m.ensures.quantised_after) at body
