-- A group's field, read and judged.
use Rattle.std.specs.Prelude.{◌≡◌, Bool, ℕ, ◌^◌, ◌≤◌, ◌<◌, Some, None}
use Rattle.std.proofs.Common.{List, length, lt-ltb, le-ltb, arith}
use Rattle.bits.specs.Field.{read_field}
use Rattle.bits.specs.Read.{from, found}
use Rattle.bits.specs.ReadLaws.{found-value, found-past}
use Rattle.bits.specs.Reading.{fault, read_bits, or_past}
use Rattle.bits.specs.declared.refusal.Refusal.TheVariants as refusal
use Rattle.mantissas.specs.Inner.{GroupAt}
use Rattle.mantissas.specs.Ranges.{size, levels, width}
use Rattle.mantissas.specs.Stream.{judged, read_group}

pub group-past : (b pos n : ℕ) (bits : List Bool) → n ≡ width b → found (read_field n (from pos bits)) ≡ None → read_group b (from pos bits) ≡ fault refusal.PastInput
unfolding read_group read_bits or_past
group-past b pos n bits en h = let f = found-past (read_field n (from pos bits)) h in rw (← en, f)

pub group-no-code : (b pos n m v : ℕ) (bits : List Bool) → n ≡ width b → found (read_field n (from pos bits)) ≡ Some v → m ≡ levels b ^ size b → m ≤ v
    → read_group b (from pos bits) ≡ fault refusal.NoCode
unfolding read_group read_bits or_past judged
group-no-code b pos n m v bits en h em l =
    let f = found-value n pos bits v h in rw (← en, f.0, le-ltb v (levels b ^ size b) (rw em at l))

pub group-good : {b pos n m v : ℕ} {bits : List Bool} → n ≡ width b → found (read_field n (from pos bits)) ≡ Some v → m ≡ levels b ^ size b → v < m
    → pos ≤ length bits → GroupAt b bits pos v
unfolding read_group read_bits or_past judged
group-good {b} {pos} {n} {m} {v} {bits} en h em l p =
    let f = found-value n pos bits v h in
    record { is = rw (← en, f.0, lt-ltb v (levels b ^ size b) (rw em at l)); there = rw (← en) (omega (arith, f.1)) }
