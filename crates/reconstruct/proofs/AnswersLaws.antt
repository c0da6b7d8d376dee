-- The ways out of `reconstruct_body` in the order of its tests: what was found decides the answer and what the two outputs hold.
use Rattle.std.specs.Prelude.{ℕ, ◌*◌, ◌≡◌, true, false, List, Result, Ok, Err, Float, length}
use Rattle.std.proofs.Math.Path.{refl}
use Rattle.std.proofs.Common.{arith, eqb-true, eq-eqb}
use Rattle.bits.specs.declared.refusal.Refusal.{Refusal}
use Rattle.bits.specs.declared.refusal.Refusal.TheVariants as refusal
use Rattle.bits.specs.Tests.{both}
use Rattle.sheet.specs.Layout.{buffer_length}
use Rattle.sheet.specs.Settings.{settings_of, channels}
use Rattle.sheet.specs.Sheet.{check_of}
use Rattle.sheet.specs.declared.settings.Settings.{Settings}
use Rattle.frame.specs.Answers.{fits}
use Rattle.frame.specs.Legal.{exps_legal, codes_legal}
use Rattle.reconstruct.specs.Inner.{Whole}
use Rattle.reconstruct.specs.Copy.{all_fit, copy_under, copy_answer, copy_left, flags_of, levels_of}

-- ---- what the test of the four lengths says

fit-long : (settings : Settings) (n : ℕ) → fits settings n ≡ true → n ≡ 256 * channels settings * 6
fit-long settings n h = omega (arith, eqb-true n (buffer_length (channels settings)) h)

pub fit-whole : (settings : Settings) (exps codes : List ℕ) (flags levels : ℕ) → all_fit settings exps codes flags levels ≡ true → Whole settings (length exps) (length codes) flags levels
fit-whole settings exps codes flags levels h =
    let one = both (fits settings (length exps)) _ h in
    let two = both (fits settings (length codes)) _ one.1 in
    let three = both (fits settings flags) (fits settings levels) two.1 in
    record {
      exps-long = fit-long settings (length exps) one.0;
      codes-long = fit-long settings (length codes) two.0;
      flags_long = fit-long settings flags three.0;
      levels-long = fit-long settings levels three.1;
    }

-- ---- what an output holds

module _ {A : Type 0} (copy before : List A) where
  pub left-refused : (k : Refusal) → before ≡ copy_left (Err k) copy before
  unfolding copy_left
  left-refused k = refl

  pub left-made : (after : List A) → after ≡ copy → after ≡ copy_left (Ok tt) copy before
  unfolding copy_left
  left-made after e = e

module _ (settings : Settings) (exps codes flags : List ℕ) (levels : List Float) where
  abbrev answer : Result Unit Refusal
  answer = copy_under settings exps codes (length flags) (length levels)

  -- refused with k: both outputs stay
  abbrev pub Refused : Refusal → Type 0
  Refused k = (Err k ≡ answer) × ((flags ≡ copy_left (Err k) (flags_of settings exps codes) flags) × (levels ≡ copy_left (Err k) (levels_of settings exps codes) levels))

  refused-with : (k : Refusal) → Err k ≡ answer → Refused k
  refused-with k e = (e, (left-refused (flags_of settings exps codes) flags k, left-refused (levels_of settings exps codes) levels k))

  -- 10
  pub wrong-length : all_fit settings exps codes (length flags) (length levels) ≡ false → Refused refusal.WrongLength
  unfolding copy_under
  wrong-length h = refused-with refusal.WrongLength (rw h)

  module _ (whole : Whole settings (length exps) (length codes) (length flags) (length levels)) where
    fit : all_fit settings exps codes (length flags) (length levels) ≡ true
    fit =
        rw (
          eq-eqb (length exps) (buffer_length (channels settings)) (omega (arith, whole.exps-long)),
          eq-eqb (length codes) (buffer_length (channels settings)) (omega (arith, whole.codes-long)),
          eq-eqb (length flags) (buffer_length (channels settings)) (omega (arith, whole.flags_long)),
          eq-eqb (length levels) (buffer_length (channels settings)) (omega (arith, whole.levels-long)),
        )

    -- 4
    pub copy-bad-exps : exps_legal settings exps ≡ false → Refused refusal.BadExponent
    unfolding copy_under
    copy-bad-exps h = refused-with refusal.BadExponent (rw (fit, h))

    -- 5
    pub copy-bad-codes : exps_legal settings exps ≡ true → codes_legal settings exps codes ≡ false → Refused refusal.BadCode
    unfolding copy_under
    copy-bad-codes s h = refused-with refusal.BadCode (rw (fit, s, h))

    -- made
    pub copy_done : exps_legal settings exps ≡ true → codes_legal settings exps codes ≡ true → (flags' : List ℕ) (levels' : List Float) → flags' ≡ flags_of settings exps codes → levels' ≡ levels_of settings exps codes
        → (Ok tt ≡ answer)
        × ((flags' ≡ copy_left (Ok tt) (flags_of settings exps codes) flags) × (levels' ≡ copy_left (Ok tt) (levels_of settings exps codes) levels))
    unfolding copy_under
    copy_done s t flags' levels' p q = (rw (fit, s, t), (left-made _ flags flags' p, left-made _ levels levels' q))

-- 1, 2 and 11, or what follows of the settings
module _ (sheet exps codes flags : List ℕ) (levels : List Float) where
  pub copy-sheet : (k : Refusal) → check_of sheet ≡ Err k
      → (Err k ≡ copy_answer sheet exps codes (length flags) (length levels))
      × ((flags ≡ copy_left (Err k) (flags_of (settings_of sheet) exps codes) flags) × (levels ≡ copy_left (Err k) (levels_of (settings_of sheet) exps codes) levels))
  unfolding copy_answer
  copy-sheet k h = (rw h, (left-refused _ flags k, left-refused _ levels k))

  pub copy-accepted : check_of sheet ≡ Ok tt → copy_under (settings_of sheet) exps codes (length flags) (length levels) ≡ copy_answer sheet exps codes (length flags) (length levels)
  unfolding copy_answer
  copy-accepted h = rw h
