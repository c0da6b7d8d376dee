-- Laws of the two calls: what the writer wrote the reader reads, whatever bits follow; and the reader's slice as the frame takes it, with 0 from end on.
use Rattle.std.specs.Prelude.{◌≡◌, Bool, true, List, ◌++◌, ℕ, ◌+◌, ◌-◌, ◌*◌, take, drop, replicate, Result, Ok, Err}
use Rattle.std.proofs.Common.{sym, arith, length-append, take-append-drop}
use Rattle.std.proofs.Math.ListN.{length}
use Rattle.bits.specs.Reading.{Outcome, ok, then}
use Rattle.bits.specs.Read.{Came}
use Rattle.bits.specs.Tests.{both}
use Rattle.bits.specs.declared.read.Fault.{Fault}
use Rattle.shaping.specs.Greatest.{Shaped}
use Rattle.sheet.specs.Ranges.{legal_end}
use Rattle.shaping.specs.Passes.{is_span}
use Rattle.exponents.specs.Groups.{group_count, exponent_bits}
use Rattle.exponents.specs.GroupsLaws.{length-exponent_bits}
use Rattle.exponents.specs.Reading.{read_exponents}
use Rattle.exponents.specs.ReadingLaws.{reads-exponents}
use Rattle.exponents.specs.Calls.{in_range, right_length, bits_read, exponents_read, entries_of, exponents_left}

-- the bits of a shaped set, and any others behind them
module _ (span : ℕ) (exps exp : List ℕ) (rest : List Bool) (a : in_range (length exps) span ≡ true) (b : right_length (length exps) (length exp) ≡ true)
    (f : Shaped (span - 1) exps) where
  read-outcome : read_exponents (length exps) span (exponent_bits span exps ++ rest) ≡ ok exps rest
  read-outcome =
      let p = both (legal_end (length exps)) (is_span span) a in
      (reads-exponents span exps p.0 p.1 f).back rest

  pub read_back : exponents_read (exponent_bits span exps ++ rest) (length exps) span (length exp) ≡ Ok (4 + 7 * group_count (length exps) span)
  unfolding exponents_read bits_read
  read_back =
      let n : length (exponent_bits span exps ++ rest) - length rest ≡ 4 + 7 * group_count (length exps) span =
      rw (length-append, length-exponent_bits span exps) (omega arith) in
      rw (a, b, read-outcome, n)

  pub left_back : exponents_left (exponent_bits span exps ++ rest) (length exps) span exp ≡ exps ++ replicate (length exp - length exps) 0
  unfolding exponents_left entries_of
  left_back = rw (a, b, read-outcome)

-- a slice of n entries: what was read, and 0 from end on
pub came-padded : (o : Outcome (List ℕ)) (l : List ℕ) (end n : ℕ) (bits : List Bool) (pos : ℕ) (r : Result ℕ Fault) → Came o (take end l) bits pos r
    → drop end l ≡ replicate (n - end) 0 → Came (then o (λ exps t. ok (exps ++ replicate (n - end) 0) t)) l bits pos r
came-padded o l end n bits pos (Ok p) c d =
    let e : take end l ++ replicate (n - end) 0 ≡ l = rw (sym d) (take-append-drop end l) in
    record { is = rw (c.is, e); within = c.within; later = c.later }
came-padded o l end n bits pos (Err f) c d = record { is = rw c.is; within = c.within; later = c.later }
