-- Cases by computation: document 01's starred ones of this step, bap 6 at exponent 0, and the levels of bap 5; what is not finite.
use Rattle.std.specs.Prelude.{◌≡◌, refl, true, false, [], ◌∷◌, map, pos, negsuc, Err}
use Rattle.std.specs.Float.{nan, inf, fin}
use Rattle.std.specs.Float.Ieee.{of_bits, mul, lt, sub, neg, of_int, round}
use Rattle.bits.specs.declared.refusal.Refusal.TheVariants as refusal
use Rattle.tables.specs.Entry.{entry}
use Rattle.tables.specs.Quantizer.{levels, level_count, quantization_bits}
use Rattle.quantiser.specs.Code.{code_of, quantised}

-- -1 gives 16, 31/32 gives 15, -1/32 gives 31
pub fractions : map (λ x. code_of x 0 6) (fin true 1 (pos 0) ∷ fin false 31 (negsuc 4) ∷ fin true 1 (negsuc 4) ∷ []) ≡ 16 ∷ 15 ∷ 31 ∷ []
unfolding code_of mul lt of_int of_bits quantization_bits entry
fractions = refl

-- each level of bap 5 is its own nearest
pub own-levels : map (λ x. code_of x 0 5) (levels 15) ≡ 0 ∷ 1 ∷ 2 ∷ 3 ∷ 4 ∷ 5 ∷ 6 ∷ 7 ∷ 8 ∷ 9 ∷ 10 ∷ 11 ∷ 12 ∷ 13 ∷ 14 ∷ []
unfolding code_of mul lt of_int of_bits round levels level_count sub neg
own-levels = refl

-- what is not finite is refused as such, before an exponent and a bap that are not legal
pub not_finite : map (λ x. quantised x 25 16) (inf false ∷ inf true ∷ nan ∷ [])
    ≡ Err refusal.NotFinite ∷ Err refusal.NotFinite ∷ Err refusal.NotFinite ∷ []
unfolding quantised
not_finite = refl
