-- `quantise_mantissa` (A/52 7.3; document 01, "Mantissas"): the code of a coefficient at an exponent and a bap, and the refusals.
use Rattle.std.specs.Prelude.{not, cond, ℕ, eqb, ltb, Float, Result, Ok}
use Rattle.std.specs.Float.Ieee.Scale.{finite}
use Rattle.bits.specs.Answer.{must}
use Rattle.bits.specs.declared.refusal.Refusal.{Refusal}
use Rattle.bits.specs.declared.refusal.Refusal.TheVariants as refusal
use Rattle.tables.specs.Entry.{entry}
use Rattle.tables.specs.Quantizer.{levels, level_count, quantization_bits}
use Rattle.quantiser.specs.Scale.{scaled}
use Rattle.quantiser.specs.Symmetric.{nearest_of}
use Rattle.quantiser.specs.Asymmetric.{signed_code}

-- document 01: bap 0 has code 0 (A/52 gives it no bits); bap 1 to 5 the nearest of its levels; bap 6 to 15 a fraction of its width
unfoldable pub code_of : Float → ℕ → ℕ → ℕ
unfolding scaled nearest_of signed_code
code_of coeff exponent bap =
    cond (eqb bap 0) 0
    (cond (ltb bap 6) (nearest_of (scaled coeff exponent) (levels (level_count bap)))
    (signed_code (entry quantization_bits bap) (scaled coeff exponent)))

-- what `quantise_mantissa` answers, the refusals in the order of document 01, "When a call is turned back": 3, 4, 5
unfoldable pub quantised : Float → ℕ → ℕ → Result ℕ Refusal
quantised coeff exponent bap =
    must (finite coeff) refusal.NotFinite
    (must (not (ltb 24 exponent)) refusal.BadExponent
    (must (not (ltb 15 bap)) refusal.BadCode
    (Ok (code_of coeff exponent bap))))
