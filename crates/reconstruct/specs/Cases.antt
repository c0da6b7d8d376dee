-- Cases by computation: no value, levels, signed codes, the ends of the range, and the refusals in their order.
use Rattle.std.specs.Prelude.{◌≡◌, refl, Err, true, false, [], ◌∷◌, map, pos, negsuc}
use Rattle.std.specs.Float.{fin, binary32}
use Rattle.std.specs.Float.Ieee.{div, of_int, of_bits}
use Rattle.bits.specs.declared.refusal.Refusal.TheVariants as refusal
use Rattle.mantissas.specs.Ranges.{levels}
use Rattle.tables.specs.Entry.{entry}
use Rattle.tables.specs.Quantizer.{level_count, level_counts, quantization_bits}
use Rattle.reconstruct.specs.Bin.{reconstructed, bin_answer}
use Rattle.reconstruct.specs.declared.mantissa.Reconstructed.TheVariants.{Silent, Level}

-- bap 1 at exponent 0: -2/3, 0 and 2/3 as f32
pub three-levels : map (reconstructed 0 1) (0 ∷ 1 ∷ 2 ∷ []) ≡ Level (of_bits binary32 0xbf2a_aaab) ∷ Level (of_bits binary32 0) ∷ Level (of_bits binary32 0x3f2a_aaab) ∷ []
unfolding reconstructed div of_int of_bits level_count level_counts entry
three-levels = refl

-- bap 6 at exponent 1: -1, 15/16, -1/16 and 0, halved
pub signed-codes : map (reconstructed 1 6) (16 ∷ 15 ∷ 31 ∷ 0 ∷ [])
    ≡ Level (fin true 1 (negsuc 0)) ∷ Level (fin false 15 (negsuc 4)) ∷ Level (fin true 1 (negsuc 4)) ∷ Level (fin false 0 (pos 0)) ∷ []
unfolding reconstructed div of_int quantization_bits entry
signed-codes = refl

-- the smallest level of all is 2^-39: bap 15, code 1, exponent 24; bap 0 has none
pub smallest : reconstructed 24 15 1 ∷ reconstructed 24 0 0 ∷ [] ≡ Level (fin false 1 (negsuc 38)) ∷ Silent ∷ []
unfolding reconstructed div of_int quantization_bits entry
smallest = refl

-- 4 before 5; a bap above 15; the first code past bap 0 and bap 6
pub refusals : bin_answer 25 16 0 ∷ bin_answer 24 16 0 ∷ bin_answer 24 0 1 ∷ bin_answer 24 6 32 ∷ []
    ≡ Err refusal.BadExponent ∷ Err refusal.BadCode ∷ Err refusal.BadCode ∷ Err refusal.BadCode ∷ []
unfolding bin_answer levels level_count level_counts entry
refusals = refl
