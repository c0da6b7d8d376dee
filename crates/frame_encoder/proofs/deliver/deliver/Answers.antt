-- The count decides whether there is room; then all is stored.
-- the counts of the allocation are the body's
use Prim.Native.Nat.{ℕ, ◌≤◌, ◌<◌}
use mathlib.Core.List.{List}
use mathlib.Core.Path.{◌≡◌, refl, sym, ap, ap₂, ◌∙◌}
use native.Mathlib.Omega.{arith}
use lib.ListN.{length}
use Rattle.bits.specs.Bytes.{bytes_for}
use Rattle.bits.specs.declared.refusal.Refusal.TheVariants as refusal
use Rattle.sheet.specs.LegalSettings.{LegalSettings}
use Rattle.sheet.specs.declared.settings.Settings.{Settings}
use Rattle.frame.specs.Answers.{gives}
use Rattle.frame.specs.AnswersLaws.{body_refused, body-accepted}
use Rattle.frame.specs.Body.{body_bits, counts_of, total}
use Rattle.frame.specs.Theorems.{body-count}
use Rattle.frame_body.specs.CountLaws.{legal-baps, counts-from-baps}
use Rattle.frame_body.specs.Size.{counts-most}
use Rattle.frame_body.specs.Writing.{counts_from}
use Rattle.frame_encoder.specs.EncodeLaws.{left-refused, left-accepted, room-short, room-there}
use Rattle.frame_encoder.specs.Made.{Made}
use Rattle.frame_encoder.proofs.deliver.deliver.Goals as goal

counted : {settings : Settings} {exps bap codes : List ℕ} → LegalSettings settings → Made settings exps bap codes → (counts : List ℕ) → counts ≡ counts_from settings bap
    → counts ≡ counts_of settings exps codes
counted under m counts e = e ∙ ap (counts_from _) m.is ∙ counts-from-baps _ _ _ under m.long.exps-long m.long.codes-long m.legal.coded

-- their sum is its length
summed : (settings : Settings) (exps codes : List ℕ) (size : ℕ) {counts : List ℕ} → counts ≡ counts_of settings exps codes → size ≡ total counts
    → size ≡ length (body_bits settings exps codes)
summed settings exps codes size e q = q ∙ ap total e ∙ sym (body-count settings exps codes)

pub count_body-counts-requires : goal.count_body-counts-requires
count_body-counts-requires c =
    let f = c.args.frame.now in
    (f.made.long.bap-long, rw f.made.is (legal-baps f.track.now.settings f.exps.now f.codes.now f.track.now.legal f.made.long.exps-long f.made.long.codes-long f.made.legal.coded))

pub body_size-bits-requires : goal.body_size-bits-requires
body_size-bits-requires c =
    let f = c.args.frame.now in
    rw (counted f.track.now.legal f.made _ c.count_body-counts.ensures)
    (omega (arith, counts-most f.track.now.settings f.track.now.legal f.exps.now f.codes.now f.made.long.exps-long f.made.legal.coded))

pub returns-then-body-bytes_for : goal.returns-then-body-bytes_for
returns-then-body-bytes_for c =
    let f = c.args.frame.now in
    let k = summed f.track.now.settings f.exps.now f.codes.now _ (counted f.track.now.legal f.made _ c.count_body-counts.ensures) c.body_size-bits.ensures in
    let short : length c.args.body.now < bytes_for (length (body_bits f.track.now.settings f.exps.now f.codes.now)) = rw (c.bytes_for.ensures, k) at c.if-body-bytes_for.true in
    record {
      value = sym (room-short _ _ _ _ short);
      exps_after = left-refused _ refusal.NoRoom _ _ refl;
      bap_after = left-refused _ refusal.NoRoom _ _ refl;
      codes_after = left-refused _ refusal.NoRoom _ _ refl;
      body_after = body_refused _ refusal.NoRoom _ _ refl;
    }

pub store_body-requires : goal.store_body-requires
store_body-requires c =
    let f = c.args.frame.now in
    let k = summed f.track.now.settings f.exps.now f.codes.now _ (counted f.track.now.legal f.made _ c.count_body-counts.ensures) c.body_size-bits.ensures in
    let room : bytes_for (length (body_bits f.track.now.settings f.exps.now f.codes.now)) ≤ length c.args.body.now = rw (c.bytes_for.ensures, k) at c.if-body-bytes_for.false in
    record {
      exps_len = (f.made.long.exps-long, f.made.long.bap-long, f.made.long.codes-long);
      legal_frame = f.made.legal;
      bap_value = (f.made.is, f.made.clean);
      codes_in_bounds = room;
    }

pub returns : goal.returns
returns c =
    let f = c.args.frame.now in
    let e = counted f.track.now.legal f.made _ c.count_body-counts.ensures in
    let k = summed f.track.now.settings f.exps.now f.codes.now _ e c.body_size-bits.ensures in
    let room : bytes_for (length (body_bits f.track.now.settings f.exps.now f.codes.now)) ≤ length c.args.body.now = rw (c.bytes_for.ensures, k) at c.if-body-bytes_for.false in
    let counts = c.count_body-counts.result in
    let size = c.body_size-bits.result in record {
      value = ap₂ gives e k ∙ sym (room-there _ _ _ _ room);
      exps_after = c.copy_from_slice.ensures.after ∙ left-accepted _ counts size _ _ refl;
      bap_after = c.copy_from_slice-2.ensures.after ∙ left-accepted _ counts size _ _ refl;
      codes_after = c.copy_from_slice-3.ensures.after ∙ left-accepted _ counts size _ _ refl;
      body_after = c.store_body.ensures ∙ body-accepted _ counts size _ _ refl;
    }
