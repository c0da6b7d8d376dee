-- `reconstruct_body` (document 02, W3): the listening copy of a frame's exponents and codes. Its bap is the allocation of its exponents, as in
-- `write_body`.
use Rattle.std.specs.Prelude.{ℕ, ◌-◌, Bool, ◌&&◌, List, ◌++◌, map, Result, Ok, Float, length, get_or, replicate}
use Rattle.bits.specs.Answer.{must, checked, kept}
use Rattle.bits.specs.Parts.{joined, piece, tab}
use Rattle.bits.specs.declared.refusal.Refusal.{Refusal}
use Rattle.bits.specs.declared.refusal.Refusal.TheVariants as refusal
use Rattle.sheet.specs.Sheet.{check_of}
use Rattle.sheet.specs.Settings.{settings_of, channels, end_at}
use Rattle.sheet.specs.declared.settings.Settings.{Settings}
use Rattle.frame.specs.Answers.{fits}
use Rattle.frame.specs.Body.{bap_part}
use Rattle.frame.specs.Layout.{row_of}
use Rattle.frame.specs.Legal.{exps_legal, codes_legal}
use Rattle.reconstruct.specs.Bin.{reconstructed, flag_of, level_of}
use Rattle.reconstruct.specs.declared.mantissa.Reconstructed.{Reconstructed}
use Rattle.reconstruct.specs.declared.mantissa.Reconstructed.TheVariants.{Silent}

-- the first n bins of these exponents, baps and codes
unfoldable pub copy_bins : ℕ → List ℕ → List ℕ → List ℕ → List Reconstructed
copy_bins n exps bap codes = tab n (λ i. reconstructed (get_or exps i 0) (get_or bap i 0) (get_or codes i 0))

-- a channel's part: its bins below end; from there on nothing
unfoldable pub copy_part : ℕ → List ℕ → List ℕ → List ℕ → List Reconstructed
copy_part end exps bap codes = copy_bins end exps bap codes ++ replicate (256 - end) Silent

-- a block: each channel's part, at the allocation of its exponents
unfoldable pub copy_row : Settings → List ℕ → List ℕ → List Reconstructed
copy_row settings exps codes =
    joined (channels settings) (λ c. copy_part (end_at settings c) (piece 256 c exps) (bap_part settings c (piece 256 c exps)) (piece 256 c codes))

-- the frame: six blocks
unfoldable pub copy_of : Settings → List ℕ → List ℕ → List Reconstructed
copy_of settings exps codes = joined 6 (λ b. copy_row settings (row_of settings b exps) (row_of settings b codes))

-- the two buffers
unfoldable pub flags_of : Settings → List ℕ → List ℕ → List ℕ
flags_of settings exps codes = map flag_of (copy_of settings exps codes)

unfoldable pub levels_of : Settings → List ℕ → List ℕ → List Float
levels_of settings exps codes = map level_of (copy_of settings exps codes)

-- ---- the answer: 1, 2, 11, 10, 4, 5, as `write_body`

-- the four buffers have the sheet's length; `flags` and `levels` are the lengths of the outputs
abbrev pub all_fit : Settings → List ℕ → List ℕ → ℕ → ℕ → Bool
all_fit settings exps codes flags levels = fits settings (length exps) && (fits settings (length codes) && (fits settings flags && fits settings levels))

-- under settings
unfoldable pub copy_under : Settings → List ℕ → List ℕ → ℕ → ℕ → Result Unit Refusal
copy_under settings exps codes flags levels =
    must (all_fit settings exps codes flags levels) refusal.WrongLength (
    must (exps_legal settings exps) refusal.BadExponent (
    must (codes_legal settings exps codes) refusal.BadCode (Ok tt)))

unfoldable pub copy_answer : List ℕ → List ℕ → List ℕ → ℕ → ℕ → Result Unit Refusal
copy_answer sheet exps codes flags levels = checked (check_of sheet) (copy_under (settings_of sheet) exps codes flags levels)

-- an output afterwards: as it was where the call was refused
unfoldable pub copy_left : {A : Type 0} → Result Unit Refusal → List A → List A → List A
copy_left answer copy before = kept answer copy before
