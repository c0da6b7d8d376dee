-- `reconstruct_mantissa` (document 02, W3): "each bin's answer is silent or a level with its float", and the refusals.
use Rattle.std.specs.Prelude.{cond, ℕ, Result, Ok, Err, eqb, ltb, Float}
use Rattle.bits.specs.declared.refusal.Refusal.{Refusal}
use Rattle.bits.specs.declared.refusal.Refusal.TheVariants as refusal
use Rattle.mantissas.specs.Ranges.{levels}
use Rattle.quantiser.specs.Scale.{zero32}
use Rattle.reconstruct.specs.Value.{mantissa, unscaled}
use Rattle.reconstruct.specs.declared.mantissa.Reconstructed.{Reconstructed}
use Rattle.reconstruct.specs.declared.mantissa.Reconstructed.TheVariants.{Silent, Level}

-- "either no value (bap 0) or a value": dither is left to the player
unfoldable pub reconstructed : ℕ → ℕ → ℕ → Reconstructed
unfolding mantissa unscaled
reconstructed exponent bap code = cond (eqb bap 0) Silent (Level (unscaled (mantissa bap code) exponent))

-- ---- a bin in two numbers, as the host's entries and the frame's buffers hold it

-- whether it has a level
abbrev pub flag_of : Reconstructed → ℕ
flag_of Silent = 0
flag_of (Level x) = 1

-- the level, and 0 where it is silent
abbrev pub level_of : Reconstructed → Float
level_of Silent = zero32
level_of (Level x) = x

-- ---- the answer

-- 4, then 5: "code range faults keep number 5"
unfoldable pub bin_answer : ℕ → ℕ → ℕ → Result Reconstructed Refusal
bin_answer exponent bap code =
    cond (ltb 24 exponent) (Err refusal.BadExponent)
    (cond (ltb 15 bap) (Err refusal.BadCode)
    (cond (ltb code (levels bap)) (Ok (reconstructed exponent bap code)) (Err refusal.BadCode)))
