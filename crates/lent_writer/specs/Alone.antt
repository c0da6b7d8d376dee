-- One field alone (document 01: "A step that writes bits alone starts at the first bit of its output and closes in the same way"):
-- what the call answers, with the tests in the table's order, 2 and then 6.
use Rattle.std.specs.Prelude.{ℕ, leb, Result, Ok}
use Rattle.bits.specs.Answer.{must}
use Rattle.bits.specs.Bytes.{bytes_for}
use Rattle.bits.specs.declared.refusal.Refusal.{Refusal}
use Rattle.bits.specs.declared.refusal.Refusal.TheVariants as refusal

-- a field has at most 16 bits, the widest that A/52's bit stream has here; `size` is the output's length in bytes
unfoldable pub field_written : ℕ → ℕ → Result ℕ Refusal
field_written n size = must (leb n 16) refusal.OutOfRange (must (leb (bytes_for n) size) refusal.NoRoom (Ok n))
