-- The ways out of `write_body` in the order of document 01, "When a call is turned back": what was found decides the answer.
use Rattle.std.specs.Prelude.{ℕ, ◌*◌, ◌≤◌, ◌<◌, ◌≡◌, true, false, List, Ok, Err, eqb, length}
use Rattle.std.proofs.Common.{sym, ap, ◌∙◌, arith}
use borrow.Author.Tests.{lt-ltb, le-ltb, eq-eqb, ne_eqb}
use Rattle.bits.specs.Bytes.{bytes_for}
use Rattle.bits.specs.declared.refusal.Refusal.{Refusal}
use Rattle.bits.specs.declared.refusal.Refusal.TheVariants as refusal
use Rattle.sheet.specs.Layout.{buffer_length}
use Rattle.sheet.specs.LegalSettings.{LegalSettings}
use Rattle.sheet.specs.Settings.{settings_of, channels}
use Rattle.sheet.specs.Sheet.{check_of}
use Rattle.sheet.specs.declared.settings.Settings.{Settings}
use Rattle.frame.specs.Answers.{gives, write_under, write_answer}
use Rattle.frame.specs.Body.{body_bits, counts_of, total}
use Rattle.frame.specs.Legal.{exps_legal, codes_legal, LegalFrame}
use Rattle.frame.specs.Theorems.{body-count}
use Rattle.frame_rows.specs.CleanLaws.{cleaned-bits, cleaned-counts, cleaned-legal}
use Rattle.frame.specs.Layout.{cleaned}
use Rattle.frame_rows.specs.RowsLaws.{length-cleaned}
use Rattle.frame_writer.specs.Sized.{Sized}

-- 1, 2 and 11
pub write-sheet : (sheet exps codes : List ℕ) (size : ℕ) (k : Refusal) → check_of sheet ≡ Err k → Err k ≡ write_answer sheet exps codes size
unfolding write_answer
write-sheet sheet exps codes size k e = rw e

pub write-accepted : (sheet exps codes : List ℕ) (size : ℕ) → check_of sheet ≡ Ok tt → write_under (settings_of sheet) exps codes size ≡ write_answer sheet exps codes size
unfolding write_answer
write-accepted sheet exps codes size a = rw a

module _ (settings : Settings) (exps codes : List ℕ) (size : ℕ) where
  -- 10
  pub write-exps-length : (length exps ≡ buffer_length (channels settings) → ⊥) → Err refusal.WrongLength ≡ write_under settings exps codes size
  unfolding write_under
  write-exps-length h = rw (ne_eqb (length exps) (buffer_length (channels settings)) h)

  pub write-codes-length : length exps ≡ buffer_length (channels settings) → (length codes ≡ buffer_length (channels settings) → ⊥)
      → Err refusal.WrongLength ≡ write_under settings exps codes size
  unfolding write_under
  write-codes-length e h = rw (eq-eqb (length exps) (buffer_length (channels settings)) e, ne_eqb (length codes) (buffer_length (channels settings)) h)

  module _ (s : Sized settings exps codes) where
    exps-pass : eqb (length exps) (buffer_length (channels settings)) ≡ true
    exps-pass = eq-eqb (length exps) (buffer_length (channels settings)) (omega (arith, s.exps-long))

    codes-pass : eqb (length codes) (buffer_length (channels settings)) ≡ true
    codes-pass = eq-eqb (length codes) (buffer_length (channels settings)) (omega (arith, s.codes-long))

    -- 4
    pub write-bad-exps : exps_legal settings exps ≡ false → Err refusal.BadExponent ≡ write_under settings exps codes size
    unfolding write_under
    write-bad-exps h = rw (exps-pass, codes-pass, h)

    -- 5
    pub write-bad-codes : exps_legal settings exps ≡ true → codes_legal settings exps codes ≡ false → Err refusal.BadCode ≡ write_under settings exps codes size
    unfolding write_under
    write-bad-codes e h = rw (exps-pass, codes-pass, e, h)

    -- 6
    pub write-no-room : LegalFrame settings exps codes → (n : ℕ) → n ≡ length (body_bits settings exps codes) → size < bytes_for n
        → Err refusal.NoRoom ≡ write_under settings exps codes size
    unfolding write_under
    write-no-room legal n e h = rw (exps-pass, codes-pass, legal.shaped, legal.coded, ← e, lt-ltb size (bytes_for n) h)

    -- written
    pub write_done : LegalFrame settings exps codes → (counts : List ℕ) (n : ℕ) → counts ≡ counts_of settings exps codes → n ≡ length (body_bits settings exps codes) → bytes_for n ≤ size
        → gives counts n ≡ write_under settings exps codes size
    unfolding write_under
    write_done legal counts n c e h = rw (exps-pass, codes-pass, legal.shaped, legal.coded, ← e, ← c, le-ltb size (bytes_for n) h)

-- the sum of the twelve counts is the length of the body
pub body-counted : (settings : Settings) (exps codes counts : List ℕ) (n : ℕ) → counts ≡ counts_of settings exps codes → n ≡ total counts → n ≡ length (body_bits settings exps codes)
body-counted settings exps codes counts n c e = e ∙ ap total c ∙ sym (body-count settings exps codes)

-- clean codes are answered as those they come from
pub write-cleaned : (settings : Settings) (exps codes : List ℕ) (size : ℕ) → LegalSettings settings → length codes ≡ 256 * channels settings * 6
    → write_under settings exps (cleaned settings codes) size ≡ write_under settings exps codes size
unfolding write_under
write-cleaned settings exps codes size u l =
    rw (length-cleaned settings codes u l ∙ sym l, cleaned-legal settings codes u l exps, cleaned-bits settings codes u l exps, cleaned-counts settings codes u l exps)
