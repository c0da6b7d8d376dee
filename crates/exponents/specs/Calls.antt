-- What `write_exponents_grouped` and `read_exponents_grouped` answer and leave (document 01, "When a call is turned back"):
-- the tests from top to bottom of the table, 2, 10, 4, 6, and for the reader 2, 10, then 7 and 8 as met in bit order.
use Rattle.std.specs.Prelude.{Bool, ◌&&◌, List, ◌++◌, ℕ, ◌-◌, leb, length, take, replicate, Result, Ok, Err}
use Rattle.bits.specs.Answer.{must, checked, kept}
use Rattle.bits.specs.Bytes.{bytes_for}
use Rattle.bits.specs.Reading.{Outcome, ok, fault}
use Rattle.bits.specs.declared.refusal.Refusal.{Refusal}
use Rattle.bits.specs.declared.refusal.Refusal.TheVariants as refusal
use Rattle.shaping.specs.Shaped.{shaped_for}
use Rattle.sheet.specs.Ranges.{legal_end}
use Rattle.shaping.specs.Passes.{is_span}
use Rattle.exponents.specs.Groups.{exponent_bits}
use Rattle.exponents.specs.Reading.{read_exponents}

-- what both calls take: "only ends that a sheet may hold; any other is 2", and so is another span than 1, 2 or 4
abbrev pub in_range : ℕ → ℕ → Bool
in_range end span = legal_end end && is_span span

-- "an end beyond its slice, or another length" than up to 256 entries, "is 10"
abbrev pub right_length : ℕ → ℕ → Bool
right_length end entries = leb entries 256 && leb end entries

-- what both calls ask first
abbrev pub set_check : ℕ → ℕ → ℕ → Result Unit Refusal
set_check end span entries = must (in_range end span) refusal.OutOfRange (must (right_length end entries) refusal.WrongLength (Ok tt))

-- the writer's answer: 4 for "exponents not shaped", 6 for "a step's bits, longer than the output", which has size bytes; else how many bits
unfoldable pub exponents_written : List ℕ → ℕ → ℕ → ℕ → Result ℕ Refusal
exponents_written exp end span size =
    checked (set_check end span (length exp)) (
    must (shaped_for (span - 1) (take end exp)) refusal.BadExponent (
    must (leb (bytes_for (length (exponent_bits span (take end exp)))) size) refusal.NoRoom (
    Ok (length (exponent_bits span (take end exp))))))

-- how many of these bits were read, or the fault
unfoldable pub bits_read : List Bool → Outcome (List ℕ) → Result ℕ Refusal
bits_read bits (ok exps rest) = Ok (length bits - length rest)
bits_read bits (fault k) = Err k

-- the reader's answer; entries is the length of the slice for the exponents
unfoldable pub exponents_read : List Bool → ℕ → ℕ → ℕ → Result ℕ Refusal
exponents_read bits end span entries = checked (set_check end span entries) (bits_read bits (read_exponents end span bits))

-- n entries: the exponents, and from end on, as document 01 says of every buffer, 0; all 0 after a fault
unfoldable pub entries_of : ℕ → Outcome (List ℕ) → List ℕ
entries_of n (ok exps rest) = exps ++ replicate (n - length exps) 0
entries_of n (fault k) = replicate n 0

-- the reader's slice at the end: 2 and 10 leave it as it was
unfoldable pub exponents_left : List Bool → ℕ → ℕ → List ℕ → List ℕ
exponents_left bits end span exp =
    kept (set_check end span (length exp)) (entries_of (length exp) (read_exponents end span bits)) exp
