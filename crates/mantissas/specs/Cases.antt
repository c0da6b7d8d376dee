-- The definitions at work: A/52's equations for the three groups, and the cases of document 01, "Edges", with what the reader makes of them.
use Rattle.std.specs.Prelude.{◌≡◌, refl, true, false, List, [], ◌∷◌, ℕ, ◌+◌, ◌*◌, ◌/◌, ◌%◌}
use Rattle.std.proofs.Common.{div-one, arith}
use Rattle.std.proofs.Math.Nat.{pow-zero}
use Rattle.bits.specs.Reading.{ok, fault}
use Rattle.bits.specs.declared.refusal.Refusal.TheVariants as refusal
use Rattle.mantissas.specs.Digits.{pack, digits, padded}
use Rattle.mantissas.specs.Ranges.{size, levels, group_sizes}
use Rattle.mantissas.specs.Stream.{group_code, stream, read_stream}
use Rattle.tables.specs.Entry.{entry}
use Rattle.tables.specs.Quantizer.{level_count}

-- ---- A/52 7.3.5: a group's value from its codes, and its codes from its value

pub triple-of-three-levels : (a b c : ℕ) → group_code 1 (a ∷ b ∷ c ∷ []) ≡ 9 * a + 3 * b + c
unfolding group_code pack padded size group_sizes levels level_count entry
triple-of-three-levels a b c = omega arith

pub triple-of-five-levels : (a b c : ℕ) → group_code 2 (a ∷ b ∷ c ∷ []) ≡ 25 * a + 5 * b + c
unfolding group_code pack padded size group_sizes levels level_count entry
triple-of-five-levels a b c = omega arith

pub pair-of-eleven-levels : (a b : ℕ) → group_code 4 (a ∷ b ∷ []) ≡ 11 * a + b
unfolding group_code pack padded size group_sizes levels level_count entry
pair-of-eleven-levels a b = omega arith

pub three-levels-read : (v : ℕ) → digits (levels 1) (size 1) v ≡ v / 9 ∷ v % 9 / 3 ∷ v % 9 % 3 ∷ []
unfolding digits size group_sizes levels level_count entry
three-levels-read v = rw div-one

pub five-levels-read : (v : ℕ) → digits (levels 2) (size 2) v ≡ v / 25 ∷ v % 25 / 5 ∷ v % 25 % 5 ∷ []
unfolding digits size group_sizes levels level_count entry
five-levels-read v = rw div-one

pub eleven-levels-read : (v : ℕ) → digits (levels 4) (size 4) v ≡ v / 11 ∷ v % 11 ∷ []
unfolding digits size group_sizes levels level_count entry
eleven-levels-read v = rw div-one

-- a code that is not grouped is its field's value
pub code-alone : (b c : ℕ) (cs : List ℕ) → size b ≡ 1 → group_code b (c ∷ cs) ≡ c
unfolding group_code pack padded
code-alone b c cs e = rw (e, pow-zero (levels b)) (omega arith)

-- ---- document 01, "Edges"

-- (bap, code) (1,2),(6,3),(1,0),(1,1): bits 10011 00011
pub three-around-one : stream (1 ∷ 6 ∷ 1 ∷ 1 ∷ []) (2 ∷ 3 ∷ 0 ∷ 1 ∷ [])
    ≡ true ∷ false ∷ false ∷ true ∷ true ∷ false ∷ false ∷ false ∷ true ∷ true ∷ []
unfolding stream
three-around-one = refl

-- (4,10) alone: 1101110
pub pair-of-one : stream (4 ∷ []) (10 ∷ []) ≡ true ∷ true ∷ false ∷ true ∷ true ∷ true ∷ false ∷ []
unfolding stream
pair-of-one = refl

-- the first case read, with a bit behind it
pub three-around-one-read : read_stream (1 ∷ 6 ∷ 1 ∷ 1 ∷ []) (true ∷ false ∷ false ∷ true ∷ true ∷ false ∷ false ∷ false ∷ true ∷ true ∷ true ∷ [])
    ≡ ok (2 ∷ 3 ∷ 0 ∷ 1 ∷ []) (true ∷ [])
unfolding read_stream
three-around-one-read = refl

-- 27 is no group of bap 1
pub twenty-seven : read_stream (1 ∷ []) (true ∷ true ∷ false ∷ true ∷ true ∷ []) ≡ fault refusal.NoCode
unfolding read_stream
twenty-seven = refl

-- a field that runs past the input, met before the value 7 of bap 3 behind it
pub past_first : read_stream (6 ∷ 3 ∷ []) (true ∷ true ∷ true ∷ []) ≡ fault refusal.PastInput
unfolding read_stream
past_first = refl
