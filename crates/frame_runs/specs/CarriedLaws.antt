-- The carried rows are the frame's rows.
use Prim.Native.Nat.{ℕ, zero, suc, ◌+◌, ◌*◌, ◌<◌}
use Rattle.std.specs.Prelude.{List, ◌≡◌, Float, length, take, replicate}
use Rattle.std.proofs.Math.Path.{sym, ap}
use Rattle.std.proofs.Common.{◌∙◌, arith}
use Rattle.std.proofs.Math.Numerals.{add-one}
use Rattle.bits.specs.Parts.{piece}
use Rattle.bits.specs.PartsLaws.{joined-cong, piece-joined}
use Rattle.elements.specs.declared.set.ExponentSet.TheVariants.{Reuse, New}
use Rattle.elements.specs.declared.strategy.Strategy.{Strategy}
use Rattle.frame.specs.Under.{channel-known, one_of_two, by-reuse, by-new}
use Rattle.sheet.specs.Settings.{channels, set_at}
use Rattle.sheet.specs.LegalSettings.{LegalSettings}
use Rattle.sheet.specs.Sizes.{most_row}
use Rattle.sheet.specs.declared.settings.Settings.{Settings}
use Rattle.frame_runs.specs.Carried.{next_part, next_row, row_at, row_before}
use Rattle.frame_runs.specs.LengthsLaws.{length-part_at}
use Rattle.frame_runs.specs.Runs.{run_part, part_at}

module _ (settings : Settings) (coeffs : List Float) (c b : ℕ) (old : List ℕ) where
  -- a reuse block leaves the part
  pub part_stays : set_at settings b c ≡ Reuse → next_part settings coeffs b c old ≡ old
  unfolding next_part
  part_stays h = by-reuse _ _ h

  pub part-begins : (strategy : Strategy) → set_at settings b c ≡ New strategy → next_part settings coeffs b c old ≡ run_part settings coeffs b c strategy
  unfolding next_part
  part-begins strategy h = by-new _ _ strategy h

module _ (settings : Settings) (coeffs : List Float) (under : LegalSettings settings) (whole : length coeffs ≡ 256 * channels settings * 6) where
  next-part_at : (b c : ℕ) → b < 6 → c < channels settings → next_part settings coeffs b c (piece 256 c (row_before settings coeffs b)) ≡ part_at settings coeffs b c
  unfolding next_part part_at row_before row_at
  next-part_at zero c hb hc =
      one_of_two (set_at settings 0 c) (λ z. absurd ((channel-known settings under c hc).first z)) (λ strategy e. by-new _ _ strategy e ∙ sym (by-new _ _ strategy e))
  next-part_at (suc b) c hb hc =
      rw (piece-joined 256 (part_at settings coeffs b) (channels settings) c (λ j l. length-part_at settings coeffs under whole b j (omega arith) l) hc)

  -- the row of block b, after that of the block before
  next-row_at : (b : ℕ) → b < 6 → next_row settings coeffs b (row_before settings coeffs b) ≡ row_at settings coeffs b
  unfolding next_row row_at
  next-row_at b hb = joined-cong _ _ (channels settings) (λ c l. next-part_at b c hb l)

  -- what block b leaves is carried on
  pub carried_on : (b : ℕ) (old row : List ℕ) → b < 6 → old ≡ row_before settings coeffs b → row ≡ next_row settings coeffs b old
      → (row ≡ row_at settings coeffs b) × (row ≡ row_before settings coeffs (b + 1))
  unfolding row_before
  carried_on b old row hb e q =
      let now : row ≡ row_at settings coeffs b = q ∙ ap (next_row settings coeffs b) e ∙ next-row_at b hb in
      (now, rw add-one now)

pub carried_first : (settings : Settings) (coeffs : List Float) (n : ℕ) → n ≡ channels settings → take (256 * n) (replicate most_row 0) ≡ row_before settings coeffs 0
unfolding row_before
carried_first settings coeffs n e = rw e
