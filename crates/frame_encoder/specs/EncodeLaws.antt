-- The answer of `encode_body` by what was found, in the table's order.
use Rattle.std.specs.Prelude.{ℕ, ◌*◌, ◌≤◌, ◌<◌, true, false, ◌&&◌, List, ◌≡◌, Result, Ok, Err, Float, length}
use Rattle.std.proofs.Common.{arith, eqb-true, lt-ltb, le-ltb}
use Rattle.bits.specs.Bytes.{bytes_for}
use Rattle.bits.specs.declared.refusal.Refusal.{Refusal}
use Rattle.bits.specs.declared.refusal.Refusal.TheVariants as refusal
use Rattle.bits.specs.Tests.{both}
use Rattle.frame.specs.Answers.{gives, fits}
use Rattle.frame.specs.Body.{body_bits, counts_of}
use Rattle.frame.specs.declared.answer.BodyBits.{BodyBits}
use Rattle.frame_runs.specs.Finite.{all_finite}
use Rattle.frame_runs.specs.Runs.{exps_of}
use Rattle.sheet.specs.Layout.{buffer_length}
use Rattle.sheet.specs.Settings.{settings_of, channels}
use Rattle.sheet.specs.Sheet.{check_of}
use Rattle.sheet.specs.declared.settings.Settings.{Settings}
use Rattle.frame_encoder.specs.Codes.{codes_of}
use Rattle.frame_encoder.specs.Made.{Buffers}
use Rattle.frame_encoder.specs.Encode.{room_answer, all_fit, encode_under, encode_answer, left}

-- ---- what is left

pub left-refused : (a : Result BodyBits Refusal) (k : Refusal) (new before : List ℕ) → a ≡ Err k → before ≡ left a new before
unfolding left
left-refused a k new before e = rw e

pub left-accepted : (a : Result BodyBits Refusal) (counts : List ℕ) (n : ℕ) (new before : List ℕ) → a ≡ gives counts n → new ≡ left a new before
unfolding left
left-accepted a counts n new before e = rw e

-- ---- room

module _ (settings : Settings) (exps codes : List ℕ) (size : ℕ) where
  pub room-short : size < bytes_for (length (body_bits settings exps codes)) → room_answer settings exps codes size ≡ Err refusal.NoRoom
  unfolding room_answer
  room-short h = rw (lt-ltb size (bytes_for (length (body_bits settings exps codes))) h)

  pub room-there : bytes_for (length (body_bits settings exps codes)) ≤ size
      → room_answer settings exps codes size ≡ gives (counts_of settings exps codes) (length (body_bits settings exps codes))
  unfolding room_answer
  room-there h = rw (le-ltb size (bytes_for (length (body_bits settings exps codes))) h)

-- ---- lengths

-- what the test of the four lengths says
pub record Whole (settings : Settings) (coeffs exps bap codes : ℕ) : Type 0 where
  pub coeffs-long : coeffs ≡ 256 * channels settings * 6
  pub buffers : Buffers settings exps bap codes

fit-long : (settings : Settings) (n : ℕ) → fits settings n ≡ true → n ≡ 256 * channels settings * 6
fit-long settings n h = omega (arith, eqb-true n (buffer_length (channels settings)) h)

pub fit-whole : (settings : Settings) (coeffs exps bap codes : ℕ) → all_fit settings coeffs exps bap codes ≡ true → Whole settings coeffs exps bap codes
fit-whole settings coeffs exps bap codes h =
    let three = both (fits settings coeffs && fits settings exps && fits settings bap) (fits settings codes) h in
    let two = both (fits settings coeffs && fits settings exps) (fits settings bap) three.0 in
    let one = both (fits settings coeffs) (fits settings exps) two.0 in
    record {
      coeffs-long = fit-long settings coeffs one.0;
      buffers =
          record {
            exps-long = fit-long settings exps one.1;
            bap-long = fit-long settings bap two.1;
            codes-long = fit-long settings codes three.1;
          };
    }

-- ---- the answer

module _ (sheet : List ℕ) (coeffs : List Float) (exps bap codes size : ℕ) where
  pub answer-sheet : (k : Refusal) → check_of sheet ≡ Err k → encode_answer sheet coeffs exps bap codes size ≡ Err k
  unfolding encode_answer
  answer-sheet k h = rw h

  module _ (accepted : check_of sheet ≡ Ok tt) where
    pub answer-length : all_fit (settings_of sheet) (length coeffs) exps bap codes ≡ false → encode_answer sheet coeffs exps bap codes size ≡ Err refusal.WrongLength
    unfolding encode_answer encode_under
    answer-length h = rw (accepted, h)

    module _ (fit : all_fit (settings_of sheet) (length coeffs) exps bap codes ≡ true) where
      pub answer-not-finite : all_finite (settings_of sheet) coeffs ≡ false → encode_answer sheet coeffs exps bap codes size ≡ Err refusal.NotFinite
      unfolding encode_answer encode_under
      answer-not-finite h = rw (accepted, fit, h)

      pub answer-room : all_finite (settings_of sheet) coeffs ≡ true
          → encode_answer sheet coeffs exps bap codes size ≡ room_answer (settings_of sheet) (exps_of (settings_of sheet) coeffs) (codes_of (settings_of sheet) coeffs) size
      unfolding encode_answer encode_under
      answer-room h = rw (accepted, fit, h)
