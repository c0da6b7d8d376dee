-- A bin as the code works it out, and the ways out of `reconstruct_mantissa`.
use Rattle.std.specs.Prelude.{◌≡◌, Bool, not, ℕ, ◌+◌, ◌-◌, ◌*◌, ◌/◌, ◌^◌, ◌≤◌, ◌<◌, T, Ok, Err, eqb, leb, ltb, pos, Float}
use Rattle.std.proofs.Math.Path.{refl, ap}
use Rattle.std.proofs.Common.{sym, ◌∙◌, le_trans, le_of_eq, leb→le, le→leb, lit≤, pow_mono}
use Rattle.std.proofs.Math.Bool.{true, false, cond}
use Rattle.std.proofs.Math.Decide.{dec_le}
use native.Mathlib.Omega.{arith}
use borrow.Author.Tests.{eq-eqb, ne_eqb, lt-ltb, le-ltb}
use Rattle.std.specs.Float.Ieee.{binary32, round, neg, div, of_int, in_float}
use Rattle.bits.specs.declared.refusal.Refusal.TheVariants as refusal
use Rattle.tables.specs.Computed.{all_below, at-index}
use Rattle.tables.specs.Entry.{entry}
use Rattle.tables.specs.Quantizer.{level_count, level_counts, quantization_bits}
use Rattle.mantissas.specs.Ranges.{levels}
use Rattle.mantissas.specs.RangesLaws.{row}
use Rattle.quantiser.specs.CodeLaws as quantiser
use Rattle.reconstruct.specs.Bin.{reconstructed, flag_of, level_of, bin_answer}
use Rattle.reconstruct.specs.Inner.{value_of, symmetric_of, asymmetric_of}
use Rattle.reconstruct.specs.QuotientLaws.{quotient_is, round-neg, unscaled-zero}
use Rattle.reconstruct.specs.Value.{mantissa, unscaled}
use Rattle.reconstruct.specs.ValueLaws.{double}
use Rattle.reconstruct.specs.declared.values.Fraction.{Fraction}
use Rattle.reconstruct.specs.declared.mantissa.Reconstructed.{Reconstructed}
use Rattle.reconstruct.specs.declared.mantissa.Reconstructed.TheVariants.{Silent, Level}

-- ---- how many codes a bap has

level_row : ℕ → Bool
level_row b = leb 1 (level_count (1 + b))

level-rows : T (all_below 5 level_row)
unfolding level_row level_count level_counts entry
level-rows = tt

-- bap 1 to 5: a code for each level
pub levels-count : (b : ℕ) → 1 ≤ b → b ≤ 5 → levels b ≡ level_count b
unfolding levels level_row
levels-count b h l =
    let e : 1 + (b - 1) ≡ b = omega arith in
    let n : 1 ≤ level_count b = rw e at (leb→le 1 (level_count (1 + (b - 1))) (at-index 5 level_row level-rows (b - 1) (omega arith))) in
    omega arith

-- ---- a code as a fraction

-- what stands above and below the line fits, and nothing is over 0
pub record Sized (f : Fraction) : Type 0 where
  pub size-most : f.size ≤ 65536
  pub over-least : 1 ≤ f.over
  pub over-most : f.over ≤ 65536

abbrev pub fraction_with : Bool → ℕ → ℕ → Fraction
fraction_with negative size over = record { negative = negative; size = size; over = over }

abbrev pub fraction_of : ℕ → ℕ → ℕ → Fraction
fraction_of bap code count = cond (ltb bap 6) (symmetric_of count code) (asymmetric_of count code)

-- the two kinds, by the tests of the code
pub symmetric-below : (L k : ℕ) → 2 * k < L - 1 → fraction_with (ltb (2 * k) (L - 1)) (L - 1 - 2 * k) L ≡ symmetric_of L k
symmetric-below L k h = ap (λ (n : ℕ). fraction_with (ltb (2 * k) (L - 1)) n L) (omega arith)

pub symmetric-above : (L k : ℕ) → L - 1 ≤ 2 * k → fraction_with (ltb (2 * k) (L - 1)) (2 * k - (L - 1)) L ≡ symmetric_of L k
symmetric-above L k h = ap (λ (n : ℕ). fraction_with (ltb (2 * k) (L - 1)) n L) (omega arith)

pub asymmetric-size : (L k n : ℕ) → n ≡ cond (ltb k (L / 2)) k (L - k) → fraction_with (not (ltb k (L / 2))) n (L / 2) ≡ asymmetric_of L k
asymmetric-size L k n e = ap (λ (n : ℕ). fraction_with (not (ltb k (L / 2))) n (L / 2)) e

-- its f32, by the sign
module _ (f : Fraction) (s : Sized f) where
  quotient : div binary32 (of_int binary32 (pos f.size)) (of_int binary32 (pos f.over)) ≡ round binary32 false f.size f.over
  quotient = quotient_is f.size f.over (le_trans s.size-most (lit≤ tt)) s.over-least (le_trans s.over-most (lit≤ tt))

  pub value-below : f.negative ≡ true → neg (div binary32 (of_int binary32 (pos f.size)) (of_int binary32 (pos f.over))) ≡ value_of f
  unfolding value_of
  value-below n = ap neg quotient ∙ round-neg f.size f.over ∙ rw n

  pub value-above : f.negative ≡ false → div binary32 (of_int binary32 (pos f.size)) (of_int binary32 (pos f.over)) ≡ value_of f
  unfolding value_of
  value-above n = quotient ∙ rw n

-- a whole number up to 65,536 as an f32
pub whole-fits : (n : ℕ) → n ≤ 65536 → T (in_float binary32 (pos n))
unfolding in_float
whole-fits n h = le→leb n (2 ^ 24) (le_trans h (lit≤ tt))

part-most : (t : Bool) (code count : ℕ) → code < count → cond t code (count - code) ≤ count
part-most true code count h = omega arith
part-most false code count h = omega arith

half_is : (w : ℕ) → 1 ≤ w → 2 ^ w / 2 ≡ 2 ^ (w - 1)
half_is w h = let d = double w h in omega arith

levels-none : levels 0 ≡ 1
unfolding levels level_count level_counts entry
levels-none = refl

none_is : value_of (fraction_of 0 0 1) ≡ round binary32 false 0 1
unfolding value_of
none_is = refl

module _ (bap code count : ℕ) (b : bap < 16) (e : count ≡ levels bap) (h : code < count) where
  count_most : count ≤ 65536
  count_most = omega (arith, (row bap b).levels-most)

  pub fraction-sized : Sized (fraction_of bap code count)
  fraction-sized = by-bap (dec_le bap 5)
    where
      by-bap : Dec (bap ≤ 5) → Sized (fraction_of bap code count)
      by-bap (yes l) = rw (lt-ltb bap 6 (omega arith)) (record { size-most = omega (arith, count_most); over-least = omega arith; over-most = omega (arith, count_most) })
      by-bap (no l) =
          let f = quantiser.fraction bap (omega arith) (omega arith) in
          let many : 2 ^ 5 ≤ count = le_trans (pow_mono f.least) (le_of_eq (sym (e ∙ f.codes))) in
          let most = count_most in
          rw (le-ltb bap 6 (omega arith)) (record { size-most = le_trans (part-most (ltb code (count / 2)) code count h) most; over-least = omega arith; over-most = omega arith })

  -- ---- the level

  module _ (exponent : ℕ) (k : exponent ≤ 24) (v : Float) (q : v ≡ value_of (fraction_of bap code count)) where
    silent-level : bap ≡ 0 → div binary32 v (of_int binary32 (pos (2 ^ exponent))) ≡ level_of (reconstructed exponent bap code)
    unfolding reconstructed
    silent-level z =
        let one : count ≡ 1 = e ∙ ap levels z ∙ levels-none in
        let none : code ≡ 0 = omega arith in
        let zero : v ≡ round binary32 false 0 1 = (rw (z, none, one) at q) ∙ none_is in
        rw (eq-eqb bap 0 z, zero) (unscaled-zero exponent k)

    symmetric-level : 1 ≤ bap → bap ≤ 5 → div binary32 v (of_int binary32 (pos (2 ^ exponent))) ≡ level_of (reconstructed exponent bap code)
    unfolding reconstructed value_of
    symmetric-level l m =
        let t = lt-ltb bap 6 (omega arith) in
        rw (ne_eqb bap 0 (λ z. omega arith), t)
        (ap (λ (x : Float). div binary32 x (of_int binary32 (pos (2 ^ exponent)))) (q ∙ rw (t, e ∙ levels-count bap l m)))

    asymmetric-level : 6 ≤ bap → div binary32 v (of_int binary32 (pos (2 ^ exponent))) ≡ level_of (reconstructed exponent bap code)
    unfolding reconstructed value_of
    asymmetric-level l =
        let t = le-ltb bap 6 l in
        let f = quantiser.fraction bap l (omega arith) in
        rw (ne_eqb bap 0 (λ z. omega arith), t)
        (ap (λ (x : Float). div binary32 x (of_int binary32 (pos (2 ^ exponent)))) (q ∙ rw (t, e ∙ f.codes, half_is (entry quantization_bits bap) (omega (arith, f.least)))))

    pub level-made : div binary32 v (of_int binary32 (pos (2 ^ exponent))) ≡ level_of (reconstructed exponent bap code)
    level-made = by-bap (dec_le bap 0) (dec_le bap 5)
      where
        by-bap : Dec (bap ≤ 0) → Dec (bap ≤ 5) → div binary32 v (of_int binary32 (pos (2 ^ exponent))) ≡ level_of (reconstructed exponent bap code)
        by-bap (yes z) m = silent-level (omega arith)
        by-bap (no z) (yes m) = symmetric-level (omega arith) m
        by-bap (no z) (no m) = asymmetric-level (omega arith)

-- ---- the bin

module _ (exponent bap code : ℕ) where
  pub bin-silent : bap ≡ 0 → Silent ≡ reconstructed exponent bap code
  unfolding reconstructed
  bin-silent z = rw (eq-eqb bap 0 z)

  pub bin-level : (bap ≡ 0 → ⊥) → (x : Float) → x ≡ level_of (reconstructed exponent bap code) → Level x ≡ reconstructed exponent bap code
  unfolding reconstructed
  bin-level z x e = rw (ne_eqb bap 0 z) (ap Level (rw (ne_eqb bap 0 z) at e))

  -- whether it has a level, by its bap
  pub bin-flag : flag_of (reconstructed exponent bap code) ≡ cond (eqb bap 0) 0 1
  unfolding reconstructed
  bin-flag = by-test (eqb bap 0)
    where
      by-test : (t : Bool) → flag_of (cond t Silent (Level (unscaled (mantissa bap code) exponent))) ≡ cond t 0 1
      by-test true = refl
      by-test false = refl

  -- ---- the answer: 4, 5, 5, the bin

  pub bin-exponent : 24 < exponent → Err refusal.BadExponent ≡ bin_answer exponent bap code
  unfolding bin_answer
  bin-exponent h = rw (lt-ltb 24 exponent h)

  pub bin-bap : exponent ≤ 24 → 15 < bap → Err refusal.BadCode ≡ bin_answer exponent bap code
  unfolding bin_answer
  bin-bap k h = rw (le-ltb 24 exponent k, lt-ltb 15 bap h)

  pub bin-code : exponent ≤ 24 → bap ≤ 15 → levels bap ≤ code → Err refusal.BadCode ≡ bin_answer exponent bap code
  unfolding bin_answer
  bin-code k b h = rw (le-ltb 24 exponent k, le-ltb 15 bap b, le-ltb code (levels bap) h)

  pub bin-given : exponent ≤ 24 → bap ≤ 15 → code < levels bap → (r : Reconstructed) → r ≡ reconstructed exponent bap code → Ok r ≡ bin_answer exponent bap code
  unfolding bin_answer
  bin-given k b h r e = rw (le-ltb 24 exponent k, le-ltb 15 bap b, lt-ltb code (levels bap) h, e)
