-- THE LISTENING COPY (document 02, W3) of a frame: why `reconstruct_body` is refused, what it accepts, and that a frame that is written and read
-- back sounds the same. What each level is: reconstruct/specs/Theorems.antt.
use Rattle.std.specs.Prelude.{ℕ, ◌≡◌, refl, true, false, List, ◌↔◌, Result, Ok, Err, length}
use Rattle.std.proofs.Common.{ap, arith}
use borrow.Author.Tests.{eqb-true, eq-eqb}
use Rattle.bits.specs.Answer.{number}
use Rattle.bits.specs.Refusal.{number_of}
use Rattle.bits.specs.declared.refusal.Refusal.{Refusal}
use Rattle.bits.specs.declared.refusal.Refusal.TheVariants as refusal
use Rattle.bits.specs.Tests.{both}
use Rattle.sheet.specs.Cause.{Cause}
use Rattle.sheet.specs.Layout.{buffer_length}
use Rattle.sheet.specs.Settings.{settings_of, channels}
use Rattle.sheet.specs.Sheet.{check_of}
use Rattle.frame.specs.Answers.{fits}
use Rattle.frame.specs.AnswersLaws.{must-says, sheet-says}
use Rattle.frame.specs.Legal.{exps_legal, codes_legal}
use Rattle.reconstruct.specs.Copy.{all_fit, copy_under, copy_answer}
use Rattle.promises.specs.Calls.{FrameUnder}
use Rattle.promises.specs.NumberLaws.{number_of-least, of-number}

-- a frame under a sheet, and two outputs of the sheet's length; `flags` and `levels` are their lengths
pub record CopyUnder (sheet exps codes : List ℕ) (flags levels : ℕ) : Type 0 where
  pub frame : FrameUnder sheet exps codes
  pub flags_long : flags ≡ buffer_length (channels (settings_of sheet))
  pub levels-long : levels ≡ buffer_length (channels (settings_of sheet))

-- why it gives its number: the tests in the table's order, the first that fails; 0 where none does
pub data CopyCause (sheet exps codes : List ℕ) (flags levels : ℕ) : ℕ → Type 0 where
  checked : {k : Refusal} → Cause sheet (Err k) → CopyCause sheet exps codes flags levels (number_of k)
  lengths : check_of sheet ≡ Ok tt → all_fit (settings_of sheet) exps codes flags levels ≡ false → CopyCause sheet exps codes flags levels (number_of refusal.WrongLength)
  exponents : check_of sheet ≡ Ok tt → all_fit (settings_of sheet) exps codes flags levels ≡ true → exps_legal (settings_of sheet) exps ≡ false → CopyCause sheet exps codes flags levels (number_of refusal.BadExponent)
  code : check_of sheet ≡ Ok tt → all_fit (settings_of sheet) exps codes flags levels ≡ true → exps_legal (settings_of sheet) exps ≡ true → codes_legal (settings_of sheet) exps codes ≡ false
      → CopyCause sheet exps codes flags levels (number_of refusal.BadCode)
  none : CopyUnder sheet exps codes flags levels → CopyCause sheet exps codes flags levels 0

under-accepted : (sheet exps codes : List ℕ) (flags levels : ℕ) → CopyUnder sheet exps codes flags levels → copy_answer sheet exps codes flags levels ≡ Ok tt
unfolding copy_answer copy_under
under-accepted sheet exps codes flags levels u =
    let n = buffer_length (channels (settings_of sheet)) in
    rw (
      u.frame.accepted,
      eq-eqb (length exps) n u.frame.exps-long,
      eq-eqb (length codes) n u.frame.codes-long,
      eq-eqb flags n u.flags_long,
      eq-eqb levels n u.levels-long,
      u.frame.legal.shaped,
      u.frame.legal.coded,
    )

module _ (sheet exps codes : List ℕ) (flags levels : ℕ) where
  fit-copy : check_of sheet ≡ Ok tt → all_fit (settings_of sheet) exps codes flags levels ≡ true → exps_legal (settings_of sheet) exps ≡ true → codes_legal (settings_of sheet) exps codes ≡ true
      → CopyUnder sheet exps codes flags levels
  fit-copy s l x c =
      let n = buffer_length (channels (settings_of sheet)) in
      let one = both (fits (settings_of sheet) (length exps)) _ l in
      let two = both (fits (settings_of sheet) (length codes)) _ one.1 in
      let three = both (fits (settings_of sheet) flags) (fits (settings_of sheet) levels) two.1 in
      record {
        frame =
            record {
              accepted = s;
              exps-long = eqb-true (length exps) n one.0;
              codes-long = eqb-true (length codes) n two.0;
              legal = record { shaped = x; coded = c };
            };
        flags_long = eqb-true flags n three.0;
        levels-long = eqb-true levels n three.1;
      }

  copy-cause-of : (r : Result Unit Refusal) → copy_answer sheet exps codes flags levels ≡ r → CopyCause sheet exps codes flags levels (number r)
  unfolding copy_answer copy_under
  copy-cause-of r e =
      let why = CopyCause sheet exps codes flags levels in
      sheet-says sheet r (λ settings. copy_under settings exps codes flags levels) e (λ k s z. of-number why z (checked s))
      (λ s e. must-says (all_fit (settings_of sheet) exps codes flags levels) refusal.WrongLength r _ e (λ t z. of-number why z (lengths s t))
      (λ l e. must-says (exps_legal (settings_of sheet) exps) refusal.BadExponent r _ e (λ t z. of-number why z (exponents s l t))
      (λ x e. must-says (codes_legal (settings_of sheet) exps codes) refusal.BadCode r _ e (λ t z. of-number why z (code s l x t))
      (λ c z. rw (← z) (none (fit-copy s l x c))))))

  -- EACH NUMBER ONLY FOR ITS CAUSE
  pub copy-cause : CopyCause sheet exps codes flags levels (number (copy_answer sheet exps codes flags levels))
  copy-cause = copy-cause-of _ refl

  -- ACCEPTED EXACTLY: what `write_body` accepts with room for every body, and outputs of the sheet's length
  pub copy-accepts : (number (copy_answer sheet exps codes flags levels) ≡ 0) ↔ CopyUnder sheet exps codes flags levels
  copy-accepts = (λ e. of-cause copy-cause e, λ u. ap (λ (a : Result Unit Refusal). number a) (under-accepted sheet exps codes flags levels u))
    where
      of-cause : {m : ℕ} → CopyCause sheet exps codes flags levels m → m ≡ 0 → CopyUnder sheet exps codes flags levels
      of-cause (checked {k} s) z = absurd (omega (arith, number_of-least k))
      of-cause (lengths s t) z = absurd (omega arith)
      of-cause (exponents s l t) z = absurd (omega arith)
      of-cause (code s l x t) z = absurd (omega arith)
      of-cause (none u) z = u
