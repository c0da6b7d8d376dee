-- THE LISTENING COPY (document 02, W3): what a level is, exactly, for all baps by one argument over the number of levels and one over the
-- width; and that the quantiser gives its code back. `HasValue x s a c` of the library says that x is finite, has the sign s, and is a / c in size;
-- `num x` / `den x` is the size of x.
use Rattle.std.specs.Prelude.{◌≡◌, ℕ, ◌+◌, ◌-◌, ◌*◌, ◌^◌, ◌≤◌, ◌<◌, T, ltb, pos, Float}
use Rattle.std.proofs.Common.{sym, ap, ◌∙◌, mul_assoc, mul-pos, le_trans, arith, lit≤, pow_pos}
use Rattle.std.proofs.Math.Decide.{dec_le}
use borrow.Author.Tests.{ne_eqb, lt-ltb, le-ltb, ltb-true}
use Rattle.std.specs.Float.{binary32}
use Rattle.std.specs.Float.Ieee.{of_int, fits}
use Rattle.std.specs.Float.Ieee.Exact.{HasValue}
use Rattle.std.specs.Float.Ieee.Fits.{div-fits}
use Rattle.std.specs.Float.Ieee.Positive.{num, den, den_pos}
use Rattle.std.specs.Float.Ieee.Scale.{finite}
use Rattle.tables.specs.Entry.{entry}
use Rattle.tables.specs.Quantizer.{level, levels, level_count, quantization_bits}
use Rattle.mantissas.specs.Ranges as codes
use Rattle.mantissas.specs.RangesLaws.{row}
use Rattle.quantiser.specs.Asymmetric.{signed_code}
use Rattle.quantiser.specs.Code.{code_of}
use Rattle.quantiser.specs.CodeLaws as quantiser
use Rattle.quantiser.specs.Scale.{zero32}
use Rattle.quantiser.specs.Symmetric.{nearest_of}
use Rattle.reconstruct.specs.Bin.{reconstructed, level_of}
use Rattle.reconstruct.specs.BinLaws.{levels-count}
use Rattle.reconstruct.specs.QuotientLaws.{Held, rescaled, unscaled-exact, scaled-unscaled, value-finite, value-most, held-some, zero_is}
use Rattle.reconstruct.specs.Value.{negative, size, fraction, mantissa, unscaled}
use Rattle.reconstruct.specs.ValueLaws.{held-level, held-fraction, fraction-exact, size-most, size-some, value-size, own-level, own-fraction}

-- the level of a bin, and the bits of its bap
abbrev pub level_at : ℕ → ℕ → ℕ → Float
level_at exponent bap code = level_of (reconstructed exponent bap code)

abbrev pub width_of : ℕ → ℕ
width_of bap = entry quantization_bits bap

level-is : (exponent bap code : ℕ) → 1 ≤ bap → level_at exponent bap code ≡ unscaled (mantissa bap code) exponent
unfolding reconstructed
level-is exponent bap code h = rw (ne_eqb bap 0 (λ z. omega arith))

level-fits : (exponent bap code : ℕ) → 1 ≤ bap → T (fits binary32 (level_at exponent bap code))
unfolding unscaled
level-fits exponent bap code h = rw (level-is exponent bap code h) (div-fits binary32 (mantissa bap code) (of_int binary32 (pos (2 ^ exponent))))

module _ (exponent bap code : ℕ) (k : exponent ≤ 24) (c : code < codes.levels bap) where
  -- ---- bap 1 to 5

  module _ (h : 1 ≤ bap) (l : bap ≤ 5) where
    in_table : code < level_count bap
    in_table = omega (arith, levels-count bap h l)

    held_low : Held (ltb (2 * code) (level_count bap - 1)) ((2 * code - (level_count bap - 1)) + (level_count bap - 1 - 2 * code)) (level (level_count bap) code)
    held_low = held-level (level_count bap) code in_table (le_trans few (lit≤ tt))
      where
        few : level_count bap ≤ 65536
        few = omega (arith, levels-count bap h l, (row bap (omega arith)).levels-most)

    mantissa-low : mantissa bap code ≡ level (level_count bap) code
    unfolding mantissa
    mantissa-low = rw (lt-ltb bap 6 (omega arith))

    -- A LEVEL IS EXACTLY the level's f32 × 2^-exponent
    pub level-exact : HasValue (level_at exponent bap code) (ltb (2 * code) (level_count bap - 1))
        (num (level (level_count bap) code)) (den (level (level_count bap) code) * 2 ^ exponent)
    level-exact = rw (level-is exponent bap code h, mantissa-low) (unscaled-exact _ _ (level (level_count bap) code) exponent held_low k)

  -- ---- bap 6 to 15

  module _ (h : 6 ≤ bap) (l : bap ≤ 15) where
    wide : quantiser.Fraction bap
    wide = quantiser.fraction bap h l

    in_field : code < 2 ^ width_of bap
    in_field = omega (arith, wide.codes)

    some : 1 ≤ width_of bap
    some = omega (arith, wide.least)

    mantissa-high : mantissa bap code ≡ fraction (width_of bap) code
    unfolding mantissa
    mantissa-high = rw (le-ltb bap 6 h)

    held_high : Held (negative (width_of bap) code) (size (width_of bap) code) (fraction (width_of bap) code)
    held_high = held-fraction (width_of bap) code some in_field wide.most

    cross : size (width_of bap) code * (den (fraction (width_of bap) code) * 2 ^ exponent) ≡ num (fraction (width_of bap) code) * (2 ^ (width_of bap - 1) * 2 ^ exponent)
    cross =
        let x = fraction (width_of bap) code in
        sym (mul_assoc (size (width_of bap) code) (den x) (2 ^ exponent))
        ∙ ap (λ (n : ℕ). n * 2 ^ exponent) (sym (value-size x _ _ _ (fraction-exact (width_of bap) code some in_field wide.most)))
        ∙ mul_assoc (num x) (2 ^ (width_of bap - 1)) (2 ^ exponent)

    -- A CODE IS EXACTLY the signed code over 2^(width - 1), × 2^-exponent
    pub code-exact : HasValue (level_at exponent bap code) (negative (width_of bap) code) (size (width_of bap) code) (2 ^ (width_of bap - 1) * 2 ^ exponent)
    code-exact =
        let x = fraction (width_of bap) code in
        rw (level-is exponent bap code (omega arith), mantissa-high)
        (rescaled (unscaled x exponent) _ (num x) (den x * 2 ^ exponent) _ _ (mul-pos (den_pos x) (pow_pos exponent)) cross (unscaled-exact _ _ x exponent held_high k))

  -- ---- every bap that has a level

  module _ (h : 1 ≤ bap) (l : bap ≤ 15) where
    either : {X : Type 0} → (bap ≤ 5 → X) → (6 ≤ bap → X) → X
    either {X = X} low high = by-dec (dec_le bap 5)
      where
        by-dec : Dec (bap ≤ 5) → X
        by-dec (yes m) = low m
        by-dec (no m) = high (omega arith)

    -- FINITE
    pub level-finite : T (finite (level_at exponent bap code))
    level-finite =
        let x = level_at exponent bap code in
        either
        (λ m. value-finite x (ltb (2 * code) (level_count bap - 1)) (num (level (level_count bap) code)) (den (level (level_count bap) code) * 2 ^ exponent) (level-exact h m))
        (λ m. value-finite x (negative (width_of bap) code) (size (width_of bap) code) (2 ^ (width_of bap - 1) * 2 ^ exponent) (code-exact m l))

    -- AT MOST 1 × 2^-exponent in size
    pub level-most : num (level_at exponent bap code) * 2 ^ exponent ≤ den (level_at exponent bap code)
    level-most =
        let x = level_at exponent bap code in
        let v = level (level_count bap) code in
        either
        (λ m. value-most x (ltb (2 * code) (level_count bap - 1)) (num v) (den v) (2 ^ exponent) (den_pos v) (held_low h m).most (level-exact h m))
        (λ m.
        value-most x (negative (width_of bap) code) (size (width_of bap) code) (2 ^ (width_of bap - 1)) (2 ^ exponent) (pow_pos (width_of bap - 1))
        (size-most (width_of bap) code (some m l) (in_field m l)) (code-exact m l))

    -- NEVER -0: a level of size 0 is +0
    pub level-zero : num (level_at exponent bap code) ≡ 0 → level_at exponent bap code ≡ zero32
    level-zero z =
        let x = level_at exponent bap code in
        let v = level (level_count bap) code in
        either
        (λ m.
        zero_is x (ltb (2 * code) (level_count bap - 1)) (num v) (den v * 2 ^ exponent) (level-fits exponent bap code h) (mul-pos (den_pos v) (pow_pos exponent)) (level-exact h m)
        (λ t. held-some _ _ v (held_low h m) (let below = ltb-true (2 * code) (level_count bap - 1) t in omega arith)) z)
        (λ m.
        zero_is x (negative (width_of bap) code) (size (width_of bap) code) (2 ^ (width_of bap - 1) * 2 ^ exponent) (level-fits exponent bap code h)
        (mul-pos (pow_pos (width_of bap - 1)) (pow_pos exponent)) (code-exact m l) (size-some (width_of bap) code (some m l) (in_field m l)) z)

    -- QUANTISED BACK: a coefficient that is exactly the level has its code, at this exponent and bap. (At bap 0 there is no level, and every
    -- coefficient has the one code 0.)
    pub quantised-back : code_of (level_at exponent bap code) exponent bap ≡ code
    unfolding code_of
    quantised-back =
        rw (level-is exponent bap code h, ne_eqb bap 0 (λ z. omega arith))
        (either
        (λ m.
        rw (lt-ltb bap 6 (omega arith), mantissa-low h m)
        (ap (λ (y : Float). nearest_of y (levels (level_count bap))) (scaled-unscaled _ _ (level (level_count bap) code) exponent (held_low h m) k)
        ∙ own-level bap code h m (in_table h m)))
        (λ m.
        rw (le-ltb bap 6 m, mantissa-high m l)
        (ap (signed_code (width_of bap)) (scaled-unscaled _ _ (fraction (width_of bap) code) exponent (held_high m l) k)
        ∙ own-fraction (width_of bap) code (some m l) (wide m l).most (in_field m l))))
