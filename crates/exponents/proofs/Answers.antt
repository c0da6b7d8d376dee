-- The answers of the two calls, one law for each way to answer.
use mathlib.Core.Path.{◌≡◌, refl, sym, ap, ◌∙◌}
use mathlib.Core.Bool.{Bool, true, false}
use mathlib.Core.List.{List, ◌++◌}
use Prim.Native.Nat.{ℕ, ◌+◌, ◌-◌, ◌*◌, ◌≤◌, ◌<◌}
use native.Mathlib.Omega.{arith}
use lib.Dec.{leb}
use lib.ListN.{length, take, drop, replicate, take-append-drop, length-drop}
use lib.Seq.{length-take-le}
use borrow.Author.Tests.{leb-true, le-leb, lt-leb}
use Rattle.std.specs.Prelude.{Ok, Err}
use Rattle.bits.specs.Bytes.{bytes_for}
use Rattle.bits.specs.Read.{from}
use Rattle.bits.specs.Reading.{ok, fault}
use Rattle.bits.specs.declared.refusal.Refusal.{Refusal}
use Rattle.bits.specs.declared.refusal.Refusal.TheVariants as refusal
use Rattle.elements.specs.Strategy.{grpsize}
use Rattle.elements.specs.declared.strategy.Strategy.{Strategy}
use Rattle.exponents.specs.Inner.{Taken}
use Rattle.bits.specs.Tests.{both}
use Rattle.shaping.specs.Shaped.{shaped_for}
use Rattle.sheet.specs.Ranges.{legal_end}
use Rattle.shaping.specs.Passes.{is_span}
use Rattle.exponents.specs.Groups.{group_count, exponent_bits}
use Rattle.exponents.specs.GroupsLaws.{length-exponent_bits}
use Rattle.exponents.specs.Reading.{read_exponents}
use Rattle.exponents.specs.Calls.{in_range, right_length, set_check, exponents_written, bits_read, exponents_read, entries_of, exponents_left}

-- ---- what the tests say

pub range-parts : (end span : ℕ) → in_range end span ≡ true → (legal_end end ≡ true) × (is_span span ≡ true)
range-parts end span h = both (legal_end end) (is_span span) h

pub length-parts : (end entries : ℕ) → right_length end entries ≡ true → (entries ≤ 256) × (end ≤ entries)
length-parts end entries h =
    let b = both (leb entries 256) (leb end entries) h in
    (leb-true entries 256 b.0, leb-true end entries b.1)

-- ---- the writer

-- as many bits as the code counts
pub bits-counted : (exp : List ℕ) (end span : ℕ) → end ≤ length exp → length (exponent_bits span (take end exp)) ≡ 4 + 7 * group_count end span
bits-counted exp end span h = length-exponent_bits span (take end exp) ∙ ap (λ (n : ℕ). 4 + 7 * group_count n span) (length-take-le end exp h)

module _ (exp : List ℕ) (end span size : ℕ) where
  pub written-refused : (k : Refusal) → set_check end span (length exp) ≡ Err k → Err k ≡ exponents_written exp end span size
  unfolding exponents_written
  written-refused k a = rw a

  module _ (strategy : Strategy) (t : Taken end span (length exp) strategy) where
    pub written-shape : shaped_for (grpsize strategy - 1) (take end exp) ≡ false → Err refusal.BadExponent ≡ exponents_written exp end span size
    unfolding exponents_written
    written-shape d = let e = rw t.own at d in rw (t.ranged, t.fits, e)

    pub written-room : shaped_for (grpsize strategy - 1) (take end exp) ≡ true
        → size < bytes_for (4 + 7 * group_count end (grpsize strategy)) → Err refusal.NoRoom ≡ exponents_written exp end span size
    unfolding exponents_written
    written-room d m =
        let e = rw t.own at d in
        let n = bits-counted exp end span (length-parts end (length exp) t.fits).1 in
        let l : size < bytes_for (4 + 7 * group_count end span) = rw t.own at m in
        rw (t.ranged, t.fits, e, n, lt-leb (bytes_for (4 + 7 * group_count end span)) size l)

    pub written_all : shaped_for (grpsize strategy - 1) (take end exp) ≡ true
        → bytes_for (4 + 7 * group_count end (grpsize strategy)) ≤ size → Ok (4 + 7 * group_count end (grpsize strategy)) ≡ exponents_written exp end span size
    unfolding exponents_written
    written_all d m =
        let e = rw t.own at d in
        let n = bits-counted exp end span (length-parts end (length exp) t.fits).1 in
        let l : bytes_for (4 + 7 * group_count end span) ≤ size = rw t.own at m in
        rw (t.own, t.ranged, t.fits, e, n, le-leb (bytes_for (4 + 7 * group_count end span)) size l)

-- ---- the reader

module _ (bits : List Bool) (end span : ℕ) (exp : List ℕ) where
  pub read-refused : (k : Refusal) → set_check end span (length exp) ≡ Err k
      → (Err k ≡ exponents_read bits end span (length exp)) × (exp ≡ exponents_left bits end span exp)
  unfolding exponents_read exponents_left
  read-refused k a = (rw a, rw a)

  module _ (strategy : Strategy) (t : Taken end span (length exp) strategy) where
    pub read-fault : (k : Refusal) → read_exponents end (grpsize strategy) bits ≡ fault k
        → (Err k ≡ exponents_read bits end span (length exp)) × (replicate (length exp) 0 ≡ exponents_left bits end span exp)
    unfolding exponents_read exponents_left bits_read entries_of
    read-fault k e = let f = rw t.own at e in (rw (t.ranged, t.fits, f), rw (t.ranged, t.fits, f))

    -- the slice holds the exponents below end, and 0 from end on
    pub read-good : (now : List ℕ) (pos : ℕ) → length now ≡ length exp → read_exponents end (grpsize strategy) bits ≡ ok (take end now) (from pos bits)
        → pos ≤ length bits → drop end now ≡ replicate (length exp - end) 0
        → (Ok pos ≡ exponents_read bits end span (length exp)) × (now ≡ exponents_left bits end span exp)
    unfolding exponents_read exponents_left bits_read entries_of from
    read-good now pos n e h d =
        let f = rw t.own at e in
        let k : length bits - length (drop pos bits) ≡ pos = rw length-drop (omega arith) in
        let l : length (take end now) ≡ end = length-take-le end now (omega (arith, length-parts end (length exp) t.fits)) in
        (rw (t.ranged, t.fits, f, k), rw (t.ranged, t.fits, f, l) (sym (take-append-drop end now) ∙ ap (λ (l : List ℕ). take end now ++ l) d))

-- from the first bit on
pub from_start : (bits : List Bool) → from 0 bits ≡ bits
unfolding from
from_start bits = refl
