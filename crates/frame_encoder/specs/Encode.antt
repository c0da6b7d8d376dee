-- What `encode_body` answers and leaves (document 01, "The frame body", "When a call is turned back"): the tests in the table's order,
-- 1, 2, 11, 10, 3, 6. A refusal leaves every buffer as it was.
use Rattle.std.specs.Prelude.{ℕ, Bool, ◌&&◌, List, Result, Float, length}
use Rattle.bits.specs.Answer.{must, kept}
use Rattle.bits.specs.declared.refusal.Refusal.{Refusal}
use Rattle.bits.specs.declared.refusal.Refusal.TheVariants as refusal
use Rattle.sheet.specs.declared.settings.Settings.{Settings}
use Rattle.frame.specs.Answers.{gives, fits, sheet_first, has_room}
use Rattle.frame.specs.Body.{body_bits, counts_of}
use Rattle.frame.specs.declared.answer.BodyBits.{BodyBits}
use Rattle.frame_runs.specs.Finite.{all_finite}
use Rattle.frame_runs.specs.Runs.{exps_of}
use Rattle.frame_encoder.specs.Codes.{codes_of}

-- the bits of the body of these coefficients
unfoldable pub encoded_bits : Settings → List Float → List Bool
encoded_bits settings coeffs = body_bits settings (exps_of settings coeffs) (codes_of settings coeffs)

-- of a legal frame: its counts and how many bits its body has, or 6; `size` is the output's length in bytes
unfoldable pub room_answer : Settings → List ℕ → List ℕ → ℕ → Result BodyBits Refusal
room_answer settings exps codes size =
    must (has_room size (body_bits settings exps codes)) refusal.NoRoom (
    gives (counts_of settings exps codes) (length (body_bits settings exps codes)))

-- the four buffers have 6 × C × 256 entries each
abbrev pub all_fit : Settings → ℕ → ℕ → ℕ → ℕ → Bool
all_fit settings coeffs exps bap codes = fits settings coeffs && fits settings exps && fits settings bap && fits settings codes

-- under settings; `exps`, `bap` and `codes` are the buffers' lengths, `size` is the output's
unfoldable pub encode_under : Settings → List Float → ℕ → ℕ → ℕ → ℕ → Result BodyBits Refusal
encode_under settings coeffs exps bap codes size =
    must (all_fit settings (length coeffs) exps bap codes) refusal.WrongLength (
    must (all_finite settings coeffs) refusal.NotFinite (
    room_answer settings (exps_of settings coeffs) (codes_of settings coeffs) size))

unfoldable pub encode_answer : List ℕ → List Float → ℕ → ℕ → ℕ → ℕ → Result BodyBits Refusal
encode_answer sheet coeffs exps bap codes size = sheet_first sheet (λ settings. encode_under settings coeffs exps bap codes size)

-- exponents, bap or codes afterwards: what is new where the call was accepted, as it was where it was refused
unfoldable pub left : Result BodyBits Refusal → List ℕ → List ℕ → List ℕ
left a new before = kept a new before
