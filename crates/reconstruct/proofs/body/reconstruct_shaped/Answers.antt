-- The codes below each end are tested, and then the copy is made.
use Prim.Native.Nat.{ℕ, ◌-◌, ◌*◌}
use mathlib.Core.Bool.{Bool}
use mathlib.Core.List.{List, ◌++◌}
use mathlib.Core.Path.{◌≡◌, ap, ◌∙◌}
use lib.ListN.{length, take, drop}
use Rattle.bits.specs.Tests.{held_false, held_true}
use Rattle.sheet.specs.LegalSettings.{ChannelCount, LegalSettings}
use Rattle.sheet.specs.Settings.{channels}
use Rattle.sheet.specs.declared.settings.Settings.{Settings}
use Rattle.frame.specs.Body.{baps_of}
use Rattle.frame.specs.Layout.{cleaned}
use Rattle.frame.specs.Legal.{codes_legal}
use Rattle.frame_rows.specs.RowsLaws.{length-baps, length-cleaned, front-filled}
use Rattle.frame_rows.specs.Tests.{rows_coded}
use Rattle.frame_rows.specs.TestsLaws.{rows-coded}
use Rattle.reconstruct.proofs.Zeros.{zeros, long}
use Rattle.reconstruct.proofs.AnswersLaws.{copy-bad-codes, copy_done}
use Rattle.reconstruct.proofs.body.reconstruct_shaped.Goals as goal

-- the front of the local array holds the cleaned codes, so their test is that of the codes
module _ {settings : Settings} {n : ℕ} (many : ChannelCount settings n) (y : List ℕ) (kept : length y ≡ length (take (256 * n * 6 - 0) zeros)) (codes : List ℕ) (is : y ≡ cleaned settings codes) where
  front : take (256 * n * 6 - 0) (y ++ drop (256 * n * 6 - 0) zeros) ≡ cleaned settings codes
  front = front-filled n zeros long many.most y kept ∙ is

  tested : (exps bap : List ℕ) (test : Bool) → LegalSettings settings → length codes ≡ 256 * channels settings * 6 → bap ≡ baps_of settings exps
      → test ≡ rows_coded settings bap (take (256 * n * 6 - 0) (y ++ drop (256 * n * 6 - 0) zeros)) → test ≡ codes_legal settings exps codes
  tested exps bap test legal codes-long b t = (rw (front, b) at t) ∙ rows-coded settings exps codes legal codes-long

pub codes_legal-requires : goal.codes_legal-requires
codes_legal-requires c =
    let settings = c.args.track.now.settings in (
      ap length c.requires.exps_value.1 ∙ length-baps settings c.args.exps.now,
      ap length (front c.channels.ensures c.clean_codes.new.to c.clean_codes.auto.to _ c.clean_codes.ensures) ∙ length-cleaned settings c.args.codes.now c.args.track.now.legal c.requires.whole.codes-long,
    )

pub returns-then-not-codes_legal : goal.returns-then-not-codes_legal
returns-then-not-codes_legal c =
    let test = tested c.channels.ensures c.clean_codes.new.to c.clean_codes.auto.to _ c.clean_codes.ensures _ _ _ c.args.track.now.legal c.requires.whole.codes-long c.requires.exps_value.1 c.codes_legal.ensures in
    let all = copy-bad-codes _ c.args.exps.now c.args.codes.now c.args.has_level.now c.args.levels.now c.requires.whole c.requires.exps_value.0 (held_false test c.if-not-codes_legal.true) in
    record { value = all.0; has_level_after = all.1.0; levels_after = all.1.1 }

pub reconstruct_frame-requires-clause-legal_frame : goal.reconstruct_frame-requires-clause-legal_frame
reconstruct_frame-requires-clause-legal_frame c =
    let test = tested c.channels.ensures c.clean_codes.new.to c.clean_codes.auto.to _ c.clean_codes.ensures _ _ _ c.args.track.now.legal c.requires.whole.codes-long c.requires.exps_value.1 c.codes_legal.ensures in
    (record { shaped = c.requires.exps_value.0; coded = held_true test c.if-not-codes_legal.false }, c.requires.exps_value.1)

pub returns : goal.returns
returns c =
    let test = tested c.channels.ensures c.clean_codes.new.to c.clean_codes.auto.to _ c.clean_codes.ensures _ _ _ c.args.track.now.legal c.requires.whole.codes-long c.requires.exps_value.1 c.codes_legal.ensures in
    let r = c.reconstruct_frame.ensures in
    let all = copy_done _ c.args.exps.now c.args.codes.now c.args.has_level.now c.args.levels.now c.requires.whole c.requires.exps_value.0 (held_true test c.if-not-codes_legal.false) _ _ r.has_level_after r.levels_after in
    record { value = all.0; has_level_after = all.1.0; levels_after = all.1.1 }
