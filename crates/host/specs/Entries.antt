-- What the entries for hosts answer and leave, given what the call behind each of them answers (document 01, "When a call is turned back").
-- An entry returns an exponent, a strategy, codes or counts in a small result slice, which must have exactly its length: another is a wrong
-- length (10), and the call is not made. In the table's order that stands after 1, 2 and 11 and before all others. On every refusal a result
-- slice of its length holds 0.
use Rattle.std.specs.Prelude.{Bool, cond, not, ◌&&◌, List, [], ℕ, ◌*◌, Float, Result, Ok, Err, eqb, ltb, length, get_or, map, replicate}
use Rattle.allocation.specs.Allocation.{answer_of, left_in}
use Rattle.bits.specs.Answer.{number, checked, kept}
use Rattle.bits.specs.Parts.{joined}
use Rattle.bits.specs.Refusal.{number_of}
use Rattle.bits.specs.declared.refusal.Refusal.{Refusal}
use Rattle.bits.specs.declared.refusal.Refusal.TheVariants as refusal
use Rattle.elements.specs.Strategy.{code_of, code_of_set}
use Rattle.elements.specs.declared.set.ExponentSet.{ExponentSet}
use Rattle.elements.specs.declared.strategy.Strategy.{Strategy}
use Rattle.frame.specs.declared.answer.BodyBits.{BodyBits}
use Rattle.shaping.specs.Strategies.{selected}
use Rattle.sheet.specs.Common.{common_of, channels_of}
use Rattle.sheet.specs.Settings.{settings_of, record_at, end_at}
use Rattle.sheet.specs.Sheet.{check_of, check_beside}

-- a result slice has its n entries
abbrev pub has_length : {A : Type 0} → ℕ → List A → Bool
has_length n slot = eqb (length slot) n

-- ---- the number, where `right` says that each result slice has its length

-- of a call that takes no sheet and refuses no number with 2
unfoldable pub length_first : {A : Type 0} → Bool → Result A Refusal → ℕ
length_first right answer = cond right (number answer) (number_of refusal.WrongLength)

-- of a call that refuses with 2 where its numbers are not in range
unfoldable pub range_first : {A : Type 0} → Bool → Bool → Result A Refusal → ℕ
range_first in_range right answer = cond right (number answer) (cond in_range (number_of refusal.WrongLength) (number_of refusal.OutOfRange))

-- of a call that takes a sheet, where a result slice has another length
unfoldable pub slot_number : List ℕ → ℕ
slot_number sheet = number (checked {A = Unit {0}} (check_of sheet) (Err refusal.WrongLength))

-- of a call that takes a sheet
unfoldable pub sheet_first : {A : Type 0} → List ℕ → Bool → Result A Refusal → ℕ
sheet_first sheet right answer = cond right (number answer) (slot_number sheet)

-- ---- what is left

-- a result slice for n values: these, or as it was where it has another length
unfoldable pub returned : {A : Type 0} → ℕ → List A → List A → List A
returned n values slot = cond (has_length n slot) values slot

-- a buffer of the call, or one of the values that it returns: as the call leaves it, or `before` where the call is not made
unfoldable pub if_called : {A : Type 0} → Bool → List A → List A → List A
if_called right after before = cond right after before

-- ---- the strategies

-- of one block: its code, or 0
abbrev pub strategy_code : Result Strategy Refusal → ℕ
strategy_code (Ok strategy) = code_of strategy
strategy_code (Err _) = 0

-- of all channels: six entries for each channel, channel by block
unfoldable pub select_number : List ℕ → List ℕ → Bool → ℕ
select_number exps ends right = range_first (not (eqb (number (selected exps ends)) (number_of refusal.OutOfRange))) right (selected exps ends)

-- the codes of the first rows of a table, one row after the other
unfoldable pub rows_of : List (List ExponentSet) → ℕ → List ℕ
rows_of table rows = joined rows (λ c. map code_of_set (get_or table c []))

-- what is returned: a row for each of so many channels, or 0
abbrev pub rows_or_0 : ℕ → Result (List (List ExponentSet)) Refusal → List ℕ
rows_or_0 rows (Ok table) = rows_of table rows
rows_or_0 rows (Err _) = replicate (6 * rows) 0

unfoldable pub select_rows : List ℕ → List ℕ → List ℕ
select_rows exps ends = rows_or_0 (length ends) (selected exps ends)

-- ---- the allocation of a channel of a sheet: the sheet, with whether it has that channel; then the call, with the channel's end

abbrev pub allocation_check : List ℕ → ℕ → Result (Unit {0}) Refusal
allocation_check sheet channel = check_beside (ltb channel (channels_of (common_of sheet))) sheet

unfoldable pub allocation_answer : List ℕ → ℕ → List ℕ → ℕ → Result (Unit {0}) Refusal
allocation_answer sheet channel exp size =
    checked (allocation_check sheet channel)
    (answer_of (settings_of sheet).common (record_at (settings_of sheet) channel).codes (end_at (settings_of sheet) channel) exp size)

-- bap afterwards: a sheet or a channel that is refused leaves it
unfoldable pub allocation_left : List ℕ → ℕ → List ℕ → List ℕ → List ℕ
allocation_left sheet channel exp bap =
    kept (allocation_check sheet channel)
    (left_in (settings_of sheet).common (record_at (settings_of sheet) channel).codes (end_at (settings_of sheet) channel) exp bap) bap

-- ---- a frame

-- what is returned of one that is turned back: twelve counts of 0, and no bits
abbrev pub nothing : BodyBits
nothing = record { counts = replicate 12 0; bits = 0 }

-- the frame's reader: twelve counts, and the number of bits
unfoldable pub right_slots : List ℕ → List ℕ → Bool
right_slots counts bits = has_length 12 counts && has_length 1 bits

-- ---- a bin's flag and its level

unfoldable pub one_each : List ℕ → List Float → Bool
one_each flag level = has_length 1 flag && has_length 1 level
