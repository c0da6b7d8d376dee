-- Laws of the entries: one for each way through them.
use Rattle.std.specs.Prelude.{◌≡◌, refl, Bool, true, false, ◌&&◌, List, [], ◌∷◌, ℕ, ◌*◌, ◌/◌, ◌%◌, ◌<◌, Float, Result, Ok, Err, eqb, ltb, length, replicate, set}
use Rattle.std.specs.Result.{result_unwrap_or}
use Rattle.std.proofs.Common.{◌∙◌, sym, ap, arith}
use borrow.Author.Tests.{eqb-true, eqb-false, eq-eqb, ne_eqb, ltb-true}
use Rattle.allocation.specs.Allocation.{answer_of, left_in}
use Rattle.bits.specs.Answer.{number, given, checked, output_of}
use Rattle.bits.specs.Refusal.{number_of}
use Rattle.bits.specs.Tests.{by_bool}
use Rattle.bits.specs.declared.refusal.Refusal.{Refusal}
use Rattle.bits.specs.declared.refusal.Refusal.TheVariants as refusal
use Rattle.elements.specs.declared.set.ExponentSet.{ExponentSet}
use Rattle.frame.specs.Answers.{body_left}
use Rattle.frame.specs.declared.answer.BodyBits.{BodyBits}
use Rattle.frame_encoder.specs.Encode.{left}
use Rattle.shaping.specs.Strategies.{selected}
use Rattle.sheet.proofs.CauseLaws.{beside-accepted}
use Rattle.sheet.proofs.Laws.{legal-sheet}
use Rattle.sheet.proofs.SettingsLaws.{settings-common, settings-record}
use Rattle.sheet.specs.Common.{common_of, channels_of}
use Rattle.sheet.specs.Record.{record_of}
use Rattle.sheet.specs.Settings.{settings_of, record_at, end_at}
use Rattle.sheet.specs.Sheet.{check_of}
use Rattle.sheet.specs.declared.common_part.Common.{Common}
use Rattle.sheet.specs.declared.record.ChannelRecord.{ChannelRecord}
use Rattle.host.specs.Entries.{length_first, range_first, slot_number, sheet_first, returned, if_called, select_number, rows_of, rows_or_0, select_rows, allocation_check, allocation_answer, allocation_left, nothing, right_slots, one_each}

-- a store to the one entry
pub set-one : {A : Type 0} (l : List A) (v : A) → length l ≡ 1 → set l 0 v ≡ v ∷ []
set-one [] v h = absurd (omega arith)
set-one (x ∷ []) v h = refl
set-one (x ∷ y ∷ l) v h = absurd (omega arith)

-- ---- the number

-- of a sheet that is refused, and of one that is accepted
refused-number : (check : Result (Unit {0}) Refusal) → (check ≡ Ok tt → ⊥) → number check ≡ number (checked {A = Unit {0}} check (Err refusal.WrongLength))
refused-number (Ok tt) h = absurd (h refl)
refused-number (Err fault) h = refl

module _ {A : Type 0} (right : Bool) (answer : Result A Refusal) where
  pub length-wrong : right ≡ false → number_of refusal.WrongLength ≡ length_first right answer
  unfolding length_first
  length-wrong e = rw e

  pub length-right : right ≡ true → number answer ≡ length_first right answer
  unfolding length_first
  length-right e = rw e

  module _ (in_range : Bool) where
    pub range_length : right ≡ false → in_range ≡ true → number_of refusal.WrongLength ≡ range_first in_range right answer
    unfolding range_first
    range_length e h = rw (e, h)

    pub range-fault : right ≡ false → in_range ≡ false → number_of refusal.OutOfRange ≡ range_first in_range right answer
    unfolding range_first
    range-fault e h = rw (e, h)

    pub range-right : right ≡ true → number answer ≡ range_first in_range right answer
    unfolding range_first
    range-right e = rw e

  module _ (sheet : List ℕ) where
    pub sheet-fault : right ≡ false → (check_of sheet ≡ Ok tt → ⊥) → number (check_of sheet) ≡ sheet_first sheet right answer
    unfolding sheet_first slot_number
    sheet-fault e h = rw e (refused-number (check_of sheet) h)

    pub sheet-length : right ≡ false → check_of sheet ≡ Ok tt → number_of refusal.WrongLength ≡ sheet_first sheet right answer
    unfolding sheet_first slot_number
    sheet-length e h = rw (e, h)

    -- where a result slice is wrong the call's answer does not matter
    pub sheet-wrong : (r : ℕ) → right ≡ false → r ≡ slot_number sheet → r ≡ sheet_first sheet right answer
    unfolding sheet_first
    sheet-wrong r e q = q ∙ rw e

    pub sheet-right : right ≡ true → number answer ≡ sheet_first sheet right answer
    unfolding sheet_first
    sheet-right e = rw e

-- ---- what is left

module _ {A : Type 0} (n : ℕ) (values slot : List A) where
  pub slot-left : (length slot ≡ n → ⊥) → slot ≡ returned n values slot
  unfolding returned
  slot-left h = rw (ne_eqb (length slot) n h)

  pub slot-holds : (slot' : List A) → length slot ≡ n → slot' ≡ values → slot' ≡ returned n values slot
  unfolding returned
  slot-holds slot' h e = rw (eq-eqb (length slot) n h) e

module _ {A : Type 0} (right : Bool) (after before : List A) where
  pub not-called : right ≡ false → before ≡ if_called right after before
  unfolding if_called
  not-called e = rw e

  pub called : (now' : List A) → right ≡ true → now' ≡ after → now' ≡ if_called right after before
  unfolding if_called
  called now' e q = q ∙ rw e

module _ (right : Bool) (bits : List Bool) (before now' : List ℕ) (e : right ≡ true) where
  pub called-output : {A : Type 0} (a b : Result A Refusal) → a ≡ b → now' ≡ output_of a bits before → now' ≡ if_called right (output_of b bits before) before
  called-output {A} a b p q = called right (output_of b bits before) before now' e (q ∙ ap (λ (x : Result A Refusal). output_of x bits before) p)

  pub called-body : (a b : Result BodyBits Refusal) → a ≡ b → now' ≡ body_left a bits before → now' ≡ if_called right (body_left b bits before) before
  called-body a b p q = called right (body_left b bits before) before now' e (q ∙ ap (λ (x : Result BodyBits Refusal). body_left x bits before) p)

pub called-left : (right : Bool) (new before now' : List ℕ) → right ≡ true → (a b : Result BodyBits Refusal) → a ≡ b → now' ≡ left a new before
    → now' ≡ if_called right (left b new before) before
called-left right new before now' e a b p q =
    called right (left b new before) before now' e (q ∙ ap (λ (x : Result BodyBits Refusal). left x new before) p)

-- ---- the answer of a call that is made

module _ {A : Type 0} (a b : Result A Refusal) (e : a ≡ b) (right : Bool) (h : right ≡ true) where
  pub length-called : number a ≡ length_first right b
  length-called = ap (λ (x : Result A Refusal). number x) e ∙ length-right right b h

  pub range-called : (in_range : Bool) → number a ≡ range_first in_range right b
  range-called in_range = ap (λ (x : Result A Refusal). number x) e ∙ range-right right b in_range h

  pub frame-called : (sheet : List ℕ) → number a ≡ sheet_first sheet right b
  frame-called sheet = ap (λ (x : Result A Refusal). number x) e ∙ sheet-right right b sheet h

-- its value in the one entry
pub value-holds : (a b : Result ℕ Refusal) → a ≡ b → (slot slot' : List ℕ) → length slot ≡ 1 → slot' ≡ given a ∷ [] → slot' ≡ returned 1 (given b ∷ []) slot
value-holds a b e slot slot' h q = slot-holds 1 (given b ∷ []) slot slot' h (q ∙ ap (λ (x : Result ℕ Refusal). given x ∷ []) e)

-- a frame's counts in the twelve
pub counts-hold : (a b : Result BodyBits Refusal) → a ≡ b → (slot slot' : List ℕ) → length slot ≡ 12 → slot' ≡ (result_unwrap_or a nothing).counts
    → slot' ≡ returned 12 (result_unwrap_or b nothing).counts slot
counts-hold a b e slot slot' h q =
    slot-holds 12 (result_unwrap_or b nothing).counts slot slot' h (q ∙ ap (λ (x : Result BodyBits Refusal). (result_unwrap_or x nothing).counts) e)

-- ---- the reader's two result slices

module _ (counts bits : List ℕ) where
  pub both_right : length counts ≡ 12 → length bits ≡ 1 → right_slots counts bits ≡ true
  unfolding right_slots
  both_right p q = rw (eq-eqb (length counts) 12 p, eq-eqb (length bits) 1 q)

  pub counts-wrong : (length counts ≡ 12 → ⊥) → right_slots counts bits ≡ false
  unfolding right_slots
  counts-wrong p = rw (ne_eqb (length counts) 12 p)

  pub bits-wrong : length counts ≡ 12 → (length bits ≡ 1 → ⊥) → right_slots counts bits ≡ false
  unfolding right_slots
  bits-wrong p q = rw (eq-eqb (length counts) 12 p, ne_eqb (length bits) 1 q)

module _ {A : Type 0} (right : Bool) (n : ℕ) (none slot slot' : List A) where
  -- 0 where the call is not made
  pub none-returned : (values : List A) → right ≡ false → slot' ≡ returned n none slot → slot' ≡ returned n (if_called right values none) slot
  none-returned values e q = q ∙ ap (λ (v : List A). returned n v slot) (not-called right values none e)

  -- what it gives where it is made
  pub all-returned : (values : List A) → right ≡ true → length slot ≡ n → slot' ≡ values → slot' ≡ returned n (if_called right values none) slot
  all-returned values e h q = slot-holds n (if_called right values none) slot slot' h (called right values none slot' e q)

-- ---- a bin's two result slices

module _ (flag : List ℕ) (level : List Float) where
  pub one_each_lem : length flag ≡ 1 → length level ≡ 1 → one_each flag level ≡ true
  unfolding one_each
  one_each_lem p q = rw (eq-eqb (length flag) 1 p, eq-eqb (length level) 1 q)

  pub flag-wrong : (length flag ≡ 1 → ⊥) → one_each flag level ≡ false
  unfolding one_each
  flag-wrong p = rw (ne_eqb (length flag) 1 p)

  pub level-wrong : length flag ≡ 1 → (length level ≡ 1 → ⊥) → one_each flag level ≡ false
  unfolding one_each
  level-wrong p q = rw (eq-eqb (length flag) 1 p, ne_eqb (length level) 1 q)

-- ---- the strategies

-- six times as many, by division
pub six-times : (n k : ℕ) → (eqb (n % 6) 0 && eqb (n / 6) k) ≡ eqb n (6 * k)
six-times n k =
    by_bool (eqb n (6 * k))
    (λ t.
    let e = eqb-true n (6 * k) t in
    rw (t, eq-eqb (n % 6) 0 (omega (arith, e)), eq-eqb (n / 6) k (omega (arith, e))))
    (λ t.
    let h = eqb-false n (6 * k) t in
    rw t (by_bool (eqb (n % 6) 0)
    (λ z.
    let whole = eqb-true (n % 6) 0 z in
    rw (z, ne_eqb (n / 6) k (λ q. h (omega (arith, whole, q)))))
    (λ z. rw z)))

-- no other answer has the number 2
other-number : {A : Type 0} (answer : Result A Refusal) → (answer ≡ Err refusal.OutOfRange → ⊥) → eqb (number answer) (number_of refusal.OutOfRange) ≡ false
other-number (Ok value) h = refl
other-number (Err refusal.Structure) h = refl
other-number (Err refusal.OutOfRange) h = absurd (h refl)
other-number (Err refusal.NotFinite) h = refl
other-number (Err refusal.BadExponent) h = refl
other-number (Err refusal.BadCode) h = refl
other-number (Err refusal.NoRoom) h = refl
other-number (Err refusal.PastInput) h = refl
other-number (Err refusal.BadGroup) h = refl
other-number (Err refusal.NoCode) h = refl
other-number (Err refusal.WrongLength) h = refl
other-number (Err refusal.OutOfOrder) h = refl

module _ (exps ends : List ℕ) (right : Bool) where
  pub select-range : right ≡ false → selected exps ends ≡ Err refusal.OutOfRange → number_of refusal.OutOfRange ≡ select_number exps ends right
  unfolding select_number range_first
  select-range h e = rw (h, e)

  pub select-length : right ≡ false → (selected exps ends ≡ Err refusal.OutOfRange → ⊥) → number_of refusal.WrongLength ≡ select_number exps ends right
  unfolding select_number range_first
  select-length h e = rw (h, other-number (selected exps ends) e)

  pub select-right : right ≡ true → number (selected exps ends) ≡ select_number exps ends right
  unfolding select_number range_first
  select-right h = rw h

-- rows of an answer that is refused
no-rows : (rows : ℕ) (answer : Result (List (List ExponentSet)) Refusal) → ((table : List (List ExponentSet)) → answer ≡ Ok table → ⊥)
    → replicate (6 * rows) 0 ≡ rows_or_0 rows answer
no-rows rows (Ok table) h = absurd (h table refl)
no-rows rows (Err fault) h = refl

module _ (exps ends slot slot' : List ℕ) (long : length slot ≡ 6 * length ends) where
  pub zeros-returned : ((table : List (List ExponentSet)) → selected exps ends ≡ Ok table → ⊥) → slot' ≡ replicate (length slot) 0
      → slot' ≡ returned (6 * length ends) (select_rows exps ends) slot
  unfolding select_rows
  zeros-returned e q =
      slot-holds (6 * length ends) _ slot slot' long
      (q ∙ ap (λ (n : ℕ). replicate n 0) long ∙ no-rows (length ends) (selected exps ends) e)

  pub rows-returned : (table : List (List ExponentSet)) → selected exps ends ≡ Ok table → slot' ≡ rows_of table (length ends)
      → slot' ≡ returned (6 * length ends) (select_rows exps ends) slot
  unfolding select_rows
  rows-returned table e q = slot-holds (6 * length ends) _ slot slot' long (q ∙ rw e)

-- ---- the allocation

module _ (sheet : List ℕ) (channel : ℕ) (exp bap : List ℕ) where
  pub allocation-refused : (fault : Refusal) → allocation_check sheet channel ≡ Err fault
      → (Err fault ≡ allocation_answer sheet channel exp (length bap)) × (bap ≡ allocation_left sheet channel exp bap)
  unfolding allocation_answer allocation_left
  allocation-refused fault h = (rw h, rw h)

  -- an accepted sheet's settings hold what stands among its bytes
  pub allocation-called : (common : Common) (chosen : ChannelRecord) (answer : Result (Unit {0}) Refusal) (bap' : List ℕ) → allocation_check sheet channel ≡ Ok tt
      → common ≡ common_of sheet → chosen ≡ record_of sheet channel
      → answer ≡ answer_of common chosen.codes chosen.end exp (length bap) → bap' ≡ left_in common chosen.codes chosen.end exp bap
      → (answer ≡ allocation_answer sheet channel exp (length bap)) × (bap' ≡ allocation_left sheet channel exp bap)
  unfolding allocation_answer allocation_left end_at
  allocation-called common chosen answer bap' e p q a l =
      let both = beside-accepted sheet (ltb channel (channels_of (common_of sheet))) e in
      let few : channel < 6 = omega (arith, ltb-true channel (channels_of (common_of sheet)) both.0, (legal-sheet sheet both.1).common.channels-most) in
      let same : common ≡ (settings_of sheet).common = p ∙ sym (settings-common sheet both.1) in
      let is : chosen ≡ record_at (settings_of sheet) channel = q ∙ sym (settings-record sheet both.1 channel few) in
      (rw e (rw (same, is) at a), rw e (rw (same, is) at l))
