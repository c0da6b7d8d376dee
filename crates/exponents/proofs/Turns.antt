-- One turn of the reader's loop: what the field at a position says of the next group.
use mathlib.Core.Path.{◌≡◌, refl, ap, ◌∙◌}
use mathlib.Core.Bool.{Bool, true}
use mathlib.Core.List.{List, [], ◌∷◌}
use Rattle.std.specs.Prelude.{Option, None, Some, ok_or, Result, Ok, Err}
use Prim.Native.Nat.{ℕ, ◌+◌, ◌≤◌, ◌<◌}
use native.Mathlib.Omega.{arith}
use lib.ListN.{length, take, set}
use lib.Seq.{take_all, length-take-le}
use Rattle.bits.specs.Field.{read_field}
use Rattle.bits.specs.Read.{from, Came}
use Rattle.bits.specs.declared.read.Fault.{Fault}
use Rattle.bits.specs.declared.refusal.Refusal.TheVariants as refusal
use Rattle.bits.specs.Reading.{ok, fault, or_past, read_bits}
use Rattle.sheet.specs.Ranges.{legal_end}
use Rattle.shaping.specs.Passes.{is_span}
use Rattle.exponents.specs.ReadShaped.{groups-read}
use Rattle.exponents.specs.Reading.{with_group, or_bad_group, read_group, read_groups, read_exponents}

-- what `ok_or` says of what it was given
pub there : {E : Type 0} (o : Option ℕ) (k : E) (v : ℕ) → Ok v ≡ ok_or o k → o ≡ Some v
there None k v e = absurd (cc)
there (Some x) k v e = cc

pub not-there : {E : Type 0} (o : Option ℕ) (k n : E) → Err n ≡ ok_or o k → o ≡ None
not-there None k n e = refl
not-there (Some x) k n e = absurd (cc)

module _ (n g i : ℕ) (x : List ℕ) (bits : List Bool) where
  pub turn-past : read_field 7 bits ≡ None → read_group n g i x bits ≡ fault refusal.PastInput
  unfolding read_group read_bits or_past
  turn-past e = rw e

  pub turn-bad : (v : ℕ) (rest : List Bool) → read_field 7 bits ≡ Some (v, rest) → with_group n g v x ≡ None → read_group n g i x bits ≡ fault refusal.BadGroup
  unfolding read_group read_bits or_past or_bad_group
  turn-bad v rest e q = rw (e, q)

  pub turn-good : (v : ℕ) (rest : List Bool) (y : List ℕ) → read_field 7 bits ≡ Some (v, rest) → with_group n g v x ≡ Some y → read_group n g i x bits ≡ ok y rest
  unfolding read_group read_bits or_past or_bad_group
  turn-good v rest y e q = rw (e, q)

-- the absolute value in front
pub set_past : (n g : ℕ) (bits : List Bool) → read_field 4 bits ≡ None → read_exponents n g bits ≡ fault refusal.PastInput
unfolding read_exponents read_bits or_past
set_past n g bits e = rw e

pub set-came : (n g first pos : ℕ) (x : List ℕ) (bits : List Bool) (r : Result ℕ Fault) → read_field 4 (from pos bits) ≡ Some (first, from (pos + 4) bits)
    → Came (read_groups n g first (from (pos + 4) bits)) x bits (pos + 4) r → Came (read_exponents n g (from pos bits)) x bits pos r
unfolding read_exponents read_bits or_past
set-came n g first pos x bits (Ok p) e c = record { is = rw e c.is; within = c.within; later = omega (arith, c.later) }
set-came n g first pos x bits (Err f) e c = record { is = rw e c.is; within = c.within; later = omega (arith, c.later) }

-- bin 0 is stored first
pub first-set : (l : List ℕ) (v : ℕ) → 0 < length l → take 1 (set l 0 v) ≡ v ∷ []
first-set [] v h = absurd (omega arith)
first-set (x ∷ r) v h = refl

-- after the last group the slice is full
pub groups-done : (end g first p : ℕ) (exp : List ℕ) (bits rest : List Bool) → legal_end end ≡ true → is_span g ≡ true → first ≤ 15 → length exp ≡ end → p ≤ end
    → read_groups end g first bits ≡ ok (take p exp) rest → read_groups end g first bits ≡ ok exp rest
groups-done end g first p exp bits rest e s b n l q =
    let r = (groups-read end g e s first bits (take p exp) rest b q).1 in
    let k : p ≡ end = omega (arith, length-take-le p exp (omega arith)) in
    q ∙ ap (λ (t : List ℕ). ok t rest) (take_all p exp (omega arith))
