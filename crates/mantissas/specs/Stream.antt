-- The mantissa stream of a list of baps and a list of codes, written and read (A/52 7.3.5; document 01, "Mantissas").
-- A field stands where the first code of its group is, and holds the next codes of its bap, up to the end of the list; missing members are 0.
use Rattle.std.specs.Prelude.{Bool, true, false, ◌&&◌, cond, ℕ, zero, suc, ◌+◌, ◌-◌, ◌^◌, eqb, ltb}
use mathlib.Core.List.{List, [], ◌∷◌, ◌++◌, head_d, tail}
use Rattle.bits.specs.Field.{field, odd, read_field, take_field, bit_val}
use Rattle.bits.specs.Reading.{Outcome, ok, fault, then, or_past, read_bits}
use Rattle.bits.specs.declared.refusal.Refusal.TheVariants as refusal
use Rattle.mantissas.specs.Digits.{pack, digits, padded}
use Rattle.mantissas.specs.Ranges.{size, levels, width, group_sizes}
use Rattle.mantissas.specs.State.{update}
use Rattle.tables.specs.Entry.{entry}
use Rattle.tables.specs.Quantizer.{quantization_bits, level_count}

-- ---- what can be written (document 01, "Mantissas": "Codes for bap 0..5: 0; 0..2; .. From 6 on: all values of the width")

-- as many codes as baps, each bap at most 15, each code one of its bap's
unfoldable pub coded : List ℕ → List ℕ → Bool
coded [] [] = true
coded [] (c ∷ cs) = false
coded (b ∷ bs) [] = false
coded (b ∷ bs) (c ∷ cs) = ltb b 16 && (ltb c (levels b) && coded bs cs)

-- every bap is at most 15
unfoldable pub baps_fit : List ℕ → Bool
baps_fit [] = true
baps_fit (b ∷ bs) = ltb b 16 && baps_fit bs

-- ---- writing (A/52 7.3.5). The state s has for each bap how many of its bins to come have their code in a field that is written:
-- 0 at the start of a block, so that groups never cross blocks.

-- the codes of the bins of bap k
unfoldable pub of_bap : ℕ → List ℕ → List ℕ → List ℕ
of_bap k [] cs = []
of_bap k (b ∷ bs) [] = []
of_bap k (b ∷ bs) (c ∷ cs) = cond (eqb k b) (c ∷ of_bap k bs cs) (of_bap k bs cs)

-- A/52's group_code: the value of the field of bap b that holds the first of these codes, the missing ones 0
unfoldable pub group_code : ℕ → List ℕ → ℕ
group_code b codes = pack (levels b) (padded (size b) codes)

-- the field that begins at a bin of bap b, none where the bin's code is in an earlier one; `codes` are those of the bap from this bin on
unfoldable pub field_at : ℕ → ℕ → List ℕ → List Bool
field_at b zero codes = field (width b) (group_code b codes)
field_at b (suc n) codes = []

-- how many bins to come are in a written field, after the bin
unfoldable pub left : ℕ → ℕ → ℕ
left b zero = size b - 1
left b (suc n) = n

-- the fields from a state on
unfoldable pub fields : (ℕ → ℕ) → List ℕ → List ℕ → List Bool
fields s [] cs = []
fields s (b ∷ bs) [] = []
fields s (b ∷ bs) (c ∷ cs) = field_at b (s b) (c ∷ of_bap b bs cs) ++ fields (update s b (left b (s b))) bs cs

-- the Rust's `write_mantissa_stream`
unfoldable pub stream : List ℕ → List ℕ → List Bool
unfolding field_at left fields group_code of_bap update pack padded size levels width group_sizes quantization_bits level_count entry field odd
stream bs cs = fields (λ k. 0) bs cs

-- ---- counting, with the same state (the Rust's `mantissa_bits_total_ends`; that it is document 01's formula: Count.antt)

-- the bits of the field at a bin, if one begins there
unfoldable pub cost : ℕ → ℕ → ℕ
cost b zero = width b
cost b (suc n) = 0

unfoldable pub count_from : (ℕ → ℕ) → List ℕ → ℕ
count_from s [] = 0
count_from s (b ∷ bs) = cost b (s b) + count_from (update s b (left b (s b))) bs

-- the bits of a stream, which the baps alone tell (`length-stream` in Count.antt)
unfoldable pub bit_count : List ℕ → ℕ
bit_count bs = count_from (λ k. 0) bs

-- ---- reading (A/52 7.3.5; the Rust has none). The state p has for each bap the codes that were read and not yet handed out.

-- a field's value is judged whole (document 01, "mantissa value no code has"): 27..31, 125..127, 121..127, 7 and 15 are no group's
unfoldable pub judged : ℕ → ℕ → List Bool → Outcome ℕ
judged b v rest = cond (ltb v (levels b ^ size b)) (ok v rest) (fault refusal.NoCode)

unfoldable pub read_group : ℕ → List Bool → Outcome ℕ
read_group b bits = then (read_bits (width b) bits) (judged b)

-- the codes at hand at a bin: those that wait, or else those of a new field
unfoldable pub members : ℕ → List ℕ → List Bool → Outcome (List ℕ)
members b [] bits = then (read_group b bits) (λ v rest. ok (digits (levels b) (size b) v) rest)
members b (c ∷ q) bits = ok (c ∷ q) bits

-- the codes from a state on: the first at hand is the bin's, the others wait
unfoldable pub read_from : (ℕ → List ℕ) → List ℕ → List Bool → Outcome (List ℕ)
read_from p [] bits = ok [] bits
read_from p (b ∷ bs) bits =
    then (members b (p b) bits) (λ q rest. then (read_from (update p b (tail q)) bs rest) (λ cs t. ok (head_d q 0 ∷ cs) t))

-- what waits at the end are pads, which are ignored (document 01, "The reader ignores those pads")
unfoldable pub read_stream : List ℕ → List Bool → Outcome (List ℕ)
unfolding read_from members read_group judged read_bits or_past update digits size levels width group_sizes quantization_bits level_count entry read_field take_field bit_val head_d
read_stream bs bits = read_from (λ k. []) bs bits
