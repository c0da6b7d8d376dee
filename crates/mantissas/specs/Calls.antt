-- What the two calls of a mantissa stream answer on every input, the refusals in the order of document 01, "When a call is turned back".
use Rattle.std.specs.Prelude.{Bool, not, ◌&&◌, cond, List, ℕ, ◌-◌, eqb, leb, ltb, length, replicate, Result, Ok, Err}
use Rattle.bits.specs.Answer.{must}
use Rattle.bits.specs.Bytes.{bytes_for}
use Rattle.bits.specs.Reading.{Outcome, ok, fault}
use Rattle.bits.specs.declared.refusal.Refusal.{Refusal}
use Rattle.bits.specs.declared.refusal.Refusal.TheVariants as refusal
use Rattle.mantissas.specs.Stream.{coded, baps_fit, stream, read_stream}

-- six channels of 256 bins
abbrev pub most_entries : ℕ
most_entries = 1536

-- document 01, "The track sheet": "mantissa stream: two of one length, at most 1,536"
unfoldable pub one_length : ℕ → ℕ → Bool
one_length m n = eqb m n && leb m most_entries

-- `write_mantissa_stream` into an output of `room` bytes: 10, 5, 6, or the number of bits
unfoldable pub write_answer : ℕ → List ℕ → List ℕ → Result ℕ Refusal
write_answer room bs cs =
    must (one_length (length bs) (length cs)) refusal.WrongLength
    (must (coded bs cs) refusal.BadCode
    (must (not (ltb room (bytes_for (length (stream bs cs))))) refusal.NoRoom
    (Ok (length (stream bs cs)))))

-- the answer to a reading of `long` bits: how many were read, or the fault, 7 or 9
unfoldable pub read_of : ℕ → Outcome (List ℕ) → Result ℕ Refusal
read_of long (ok cs rest) = Ok (long - length rest)
read_of long (fault k) = Err k

-- the output of a reading, which a fault leaves with n entries of 0
unfoldable pub codes_of : ℕ → Outcome (List ℕ) → List ℕ
codes_of n (ok cs rest) = cs
codes_of n (fault k) = replicate n 0

-- `read_mantissa_stream` of these bits into n codes: 10, 5, then 7 and 9 as met, or the number of bits read
unfoldable pub read_answer : List Bool → List ℕ → ℕ → Result ℕ Refusal
read_answer bits bs n =
    must (one_length (length bs) n) refusal.WrongLength
    (must (baps_fit bs) refusal.BadCode
    (read_of (length bits) (read_stream bs bits)))

-- and what it leaves in the codes: 10 and 5 leave them as they were
unfoldable pub codes_after : List Bool → List ℕ → List ℕ → List ℕ
codes_after bits bs codes =
    cond (not (one_length (length bs) (length codes))) codes
    (cond (not (baps_fit bs)) codes
    (codes_of (length codes) (read_stream bs bits)))
