-- What the frame's calls answer and leave (document 01, "When a call is turned back"): the tests in the table's order, each with the
-- refusal that it gives (bits/src/refusal.rt).
use Rattle.std.specs.Prelude.{ℕ, ◌-◌, Bool, not, cond, ◌&&◌, List, ◌++◌, Result, Ok, Err, eqb, is_ok, ltb, length, replicate}
use Rattle.bits.specs.Answer.{output_of, must, checked}
use Rattle.bits.specs.Bytes.{bytes_for}
use Rattle.bits.specs.Reading.{Outcome, ok, fault}
use Rattle.bits.specs.declared.refusal.Refusal.{Refusal}
use Rattle.bits.specs.declared.refusal.Refusal.TheVariants as refusal
use Rattle.sheet.specs.Layout.{buffer_length}
use Rattle.sheet.specs.Settings.{settings_of, channels}
use Rattle.sheet.specs.Sheet.{check_of}
use Rattle.sheet.specs.declared.settings.Settings.{Settings}
use Rattle.frame.specs.Body.{body_bits, counts_of}
use Rattle.frame.specs.Legal.{exps_legal, codes_legal}
use Rattle.frame.specs.Reader.{Frame, read_frame}
use Rattle.frame.specs.declared.answer.BodyBits.{BodyBits}

-- accepted, with the twelve counts and the bits of the body
abbrev pub gives : List ℕ → ℕ → Result BodyBits Refusal
gives counts bits = Ok (record { counts = counts; bits = bits })

-- a buffer of so many entries is one of the sheet's: 6 × C × 256
abbrev pub fits : Settings → ℕ → Bool
fits settings n = eqb n (buffer_length (channels settings))

-- causes 1, 2 and 11, which stand before all others; what follows is said of the sheet's settings
abbrev pub sheet_first : {A : Type 0} → List ℕ → (Settings → Result A Refusal) → Result A Refusal
sheet_first sheet answer = checked (check_of sheet) (answer (settings_of sheet))

-- the bits, with the zero bits to the byte, are not longer than an output of so many bytes; else cause 6
abbrev pub has_room : ℕ → List Bool → Bool
has_room size bits = not (ltb size (bytes_for (length bits)))

-- ---- the second entry: 1, 2, 11, 10, 4, 5, 6

-- under settings; `size` is the output's length in bytes
unfoldable pub write_under : Settings → List ℕ → List ℕ → ℕ → Result BodyBits Refusal
write_under settings exps codes size =
    must (fits settings (length exps) && fits settings (length codes)) refusal.WrongLength (
    must (exps_legal settings exps) refusal.BadExponent (
    must (codes_legal settings exps codes) refusal.BadCode (
    must (has_room size (body_bits settings exps codes)) refusal.NoRoom (
    gives (counts_of settings exps codes) (length (body_bits settings exps codes))))))

unfoldable pub write_answer : List ℕ → List ℕ → List ℕ → ℕ → Result BodyBits Refusal
write_answer sheet exps codes size = sheet_first sheet (λ settings. write_under settings exps codes size)

-- the output afterwards: the body where the call was accepted, as it was where it was refused
unfoldable pub body_left : Result BodyBits Refusal → List Bool → List ℕ → List ℕ
body_left a bits out = output_of a bits out

-- ---- the reader: 1, 2, 11, 10, then 7, 8, 9 as met

-- the counts and how many bits were read, or the fault that was met
unfoldable pub reading_of : List Bool → Outcome Frame → Result BodyBits Refusal
reading_of bits (ok frame rest) = gives (frame.exponent_bits ++ frame.mantissa_bits) (length bits - length rest)
reading_of bits (fault refusal) = Err refusal

-- the buffers for exponents, bap and codes have the sheet's length
abbrev pub readable : Settings → ℕ → ℕ → ℕ → Bool
readable settings exps bap codes = fits settings exps && fits settings bap && fits settings codes

-- under settings; `exps`, `bap` and `codes` are the buffers' lengths
unfoldable pub read_under : Settings → List Bool → ℕ → ℕ → ℕ → Result BodyBits Refusal
read_under settings bits exps bap codes = must (readable settings exps bap codes) refusal.WrongLength (reading_of bits (read_frame settings bits))

unfoldable pub read_answer : List ℕ → List Bool → ℕ → ℕ → ℕ → Result BodyBits Refusal
read_answer sheet bits exps bap codes = sheet_first sheet (λ settings. read_under settings bits exps bap codes)

-- what the buffers for exponents, bap and codes take of a frame that was read
abbrev pub exps_read : Frame → List ℕ
exps_read frame = frame.exps

abbrev pub bap_read : Frame → List ℕ
bap_read frame = frame.bap

abbrev pub codes_read : Frame → List ℕ
codes_read frame = frame.codes

-- one of the buffers of a reading: what was read, or all 0 after a fault
unfoldable pub read_into : (Frame → List ℕ) → ℕ → Outcome Frame → List ℕ
read_into part n (ok frame rest) = part frame
read_into part n (fault refusal) = replicate n 0

-- whether the reading is begun: none of 1, 2, 11 and 10 is given
abbrev pub reached : List ℕ → ℕ → ℕ → ℕ → Bool
reached sheet exps bap codes = is_ok (check_of sheet) && readable (settings_of sheet) exps bap codes

-- a buffer afterwards: as it was where the reading is not begun
unfoldable pub read_left : Bool → (Frame → List ℕ) → Outcome Frame → List ℕ → List ℕ
read_left begun part outcome before = cond begun (read_into part (length before) outcome) before
