-- What the program answers (document 01, "The frame body"): 1, 2 and 11 of the sheet; "too few or too many coefficient bytes are 10", which
-- are others than four for each of 6 × C × 256 entries; then what `encode_body` answers.
use Rattle.std.specs.Prelude.{ℕ, ◌*◌, List, Result, eqb, length}
use Rattle.bits.specs.Answer.{must}
use Rattle.bits.specs.declared.refusal.Refusal.{Refusal}
use Rattle.bits.specs.declared.refusal.Refusal.TheVariants as refusal
use Rattle.frame.specs.Answers.{sheet_first}
use Rattle.frame.specs.declared.answer.BodyBits.{BodyBits}
use Rattle.frame_encoder.specs.Encode.{encode_answer}
use Rattle.sheet.specs.Layout.{buffer_length}
use Rattle.sheet.specs.Settings.{channels}
use Rattle.input.specs.Input.{sheet_in, coefficient_bytes, coefficients_in}

-- the bytes for the body: more than the longest body has (frame_body/specs/Size.antt `body-most`)
abbrev pub body_room : ℕ
body_room = 21504

-- to the bytes after a sheet that is accepted, whose buffers have n entries
unfoldable pub bytes_answer : List ℕ → List ℕ → ℕ → Result BodyBits Refusal
bytes_answer sheet bytes n = must (eqb (length bytes) (4 * n)) refusal.WrongLength (encode_answer sheet (coefficients_in n bytes) n n n body_room)

-- to the whole input
unfoldable pub program_answer : List ℕ → Result BodyBits Refusal
program_answer input = sheet_first (sheet_in input) (λ settings. bytes_answer (sheet_in input) (coefficient_bytes input) (buffer_length (channels settings)))
