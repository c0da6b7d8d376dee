-- The answer of the sheet check, document 01, "When a call is turned back", and document 02, W1: 1 for the structure, then 2 for a range,
-- then 11 for the order of the records, else accepted.
use Rattle.std.specs.Prelude.{ℕ, Result, Ok, List, Bool, true, ◌&&◌}
use Rattle.bits.specs.Answer.{must}
use Rattle.bits.specs.declared.refusal.Refusal.{Refusal}
use Rattle.bits.specs.declared.refusal.Refusal.TheVariants as refusal
use Rattle.sheet.specs.Grammar.{structured}
use Rattle.sheet.specs.Ranges.{in_range}
use Rattle.sheet.specs.Order.{in_order}

-- of a call that takes numbers beside the sheet, as a channel's: one out of its range is a 2 as a value of the sheet is, so it stands before 11
abbrev pub check_beside : Bool → List ℕ → Result Unit Refusal
check_beside numbersInRange s =
    must (structured s) refusal.Structure
    (must (numbersInRange && in_range s) refusal.OutOfRange
    (must (in_order s) refusal.OutOfOrder (Ok tt)))

-- of a sheet alone
abbrev pub check_of : List ℕ → Result Unit Refusal
check_of s = check_beside true s
