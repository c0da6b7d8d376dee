-- Laws of the program's answer: each way through the call of an accepted sheet.
use Rattle.std.specs.Prelude.{ℕ, ◌-◌, ◌*◌, ◌≡◌, List, Result, Ok, Err, length, take, drop}
use Rattle.std.proofs.Common.{sym, ap, ◌∙◌}
use borrow.Author.Tests.{eq-eqb, ne_eqb}
use Rattle.std.proofs.Math.ListN.{length-drop}
use Rattle.std.proofs.Math.Seq.{take-length}
use Rattle.bits.specs.declared.refusal.Refusal.{Refusal}
use Rattle.bits.specs.declared.refusal.Refusal.TheVariants as refusal
use Rattle.frame.specs.declared.answer.BodyBits.{BodyBits}
use Rattle.frame_encoder.specs.Encode.{encode_answer}
use Rattle.sheet.specs.Layout.{buffer_length}
use Rattle.sheet.specs.LegalSettings.{ChannelCount}
use Rattle.sheet.specs.Settings.{settings_of, channels}
use Rattle.sheet.specs.declared.settings.Settings.{Settings}
use Rattle.sheet.specs.Sheet.{check_of}
use Rattle.input.specs.Input.{sheet_size, sheet_in, coefficient_bytes, coefficients_in}
use Rattle.input.specs.Program.{body_room, bytes_answer, program_answer}

-- all that stands from `size` on
pub rest-whole : (size : ℕ) (input : List ℕ) → take (length input - size) (drop size input) ≡ drop size input
rest-whole size input = ap (λ (k : ℕ). take k (drop size input)) (sym (length-drop size input)) ∙ take-length (drop size input)

-- the sheet and the bytes after it as the code has them
module _ (input : List ℕ) (size : ℕ) (e : size ≡ sheet_size input) where
  pub sheet-read : take size input ≡ sheet_in input
  unfolding sheet_in
  sheet-read = ap (λ (k : ℕ). take k input) e

  pub bytes_read : drop size input ≡ coefficient_bytes input
  unfolding coefficient_bytes
  bytes_read = ap (λ (k : ℕ). drop k input) e

  module _ (accepted : check_of (take size input) ≡ Ok tt) {settings : Settings} (is : settings ≡ settings_of (take size input))
      (count : ℕ) (many : ChannelCount settings count) (n : ℕ) (whole : n ≡ buffer_length count) where
    accepted-in : check_of (sheet_in input) ≡ Ok tt
    accepted-in = ap check_of (sym sheet-read) ∙ accepted

    -- the entries of a buffer, as the code counts them
    whole_in : buffer_length (channels (settings_of (sheet_in input))) ≡ n
    whole_in = ap (λ (s : List ℕ). buffer_length (channels (settings_of s))) (sym sheet-read) ∙ sym (whole ∙ ap buffer_length (many.is ∙ ap channels is))

    -- 10
    pub program-length : (length input - size ≡ 4 * n → ⊥) → Err refusal.WrongLength ≡ program_answer input
    unfolding program_answer bytes_answer
    program-length h =
        let g : length (coefficient_bytes input) ≡ 4 * n → ⊥ = λ z. h (sym (length-drop size input) ∙ ap length bytes_read ∙ z) in
        rw (accepted-in, whole_in, ne_eqb (length (coefficient_bytes input)) (4 * n) g)

    -- what `encode_body` answers
    pub program-encoded : (r : Result BodyBits Refusal) → length input - size ≡ 4 * n
        → r ≡ encode_answer (take size input) (coefficients_in n (take (length input - size) (drop size input))) n n n body_room → r ≡ program_answer input
    unfolding program_answer bytes_answer
    program-encoded r h q =
        let g : length (coefficient_bytes input) ≡ 4 * n = ap length (sym bytes_read) ∙ length-drop size input ∙ h in
        q ∙ ap (λ (s : List ℕ). encode_answer s (coefficients_in n (take (length input - size) (drop size input))) n n n body_room) sheet-read
        ∙ ap (λ (b : List ℕ). encode_answer (sheet_in input) (coefficients_in n b) n n n body_room) (rest-whole size input ∙ bytes_read)
        ∙ rw (accepted-in, whole_in, eq-eqb (length (coefficient_bytes input)) (4 * n) g)
