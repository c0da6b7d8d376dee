-- What stands from an end on makes no difference: clean codes have the bits, the counts and the legality of the codes that they come from.
use Rattle.std.specs.Prelude.{ℕ, zero, suc, ◌*◌, ◌<◌, ◌≡◌, refl, Bool}
use Rattle.std.proofs.Math.Path.{ap}
use Rattle.std.proofs.Common.{◌∙◌, arith}
use mathlib.Core.List.{List, ◌++◌}
use Rattle.std.proofs.Math.ListN.{length}
use Rattle.bits.specs.Parts.{piece}
use Rattle.bits.specs.PartsLaws.{joined-cong, tab-cong}
use Rattle.mantissas.specs.Stream.{coded, stream}
use Rattle.sheet.specs.Ranges.{all_below}
use Rattle.sheet.specs.Settings.{channels, end_at}
use Rattle.sheet.specs.LegalSettings.{LegalSettings}
use Rattle.sheet.specs.declared.settings.Settings.{Settings}
use Rattle.frame.specs.Body.{sets_bits, bap_row, mantissa_bits, block_bits, body_bits, exponent_counts, mantissa_counts, counts_of}
use Rattle.frame.specs.Layout.{row_of, clean, clean_row, cleaned}
use Rattle.frame.specs.LayoutLaws.{clean-clean, end-inside, piece-clean, length-row}
use Rattle.frame.specs.Legal.{codes_legal}
use Rattle.frame_rows.specs.RowsLaws.{row-cleaned}

pub all-below-same : (n : ℕ) (f g : ℕ → Bool) → ((i : ℕ) → i < n → f i ≡ g i) → all_below n f ≡ all_below n g
all-below-same zero f g h = refl
all-below-same (suc n) f g h = rw (all-below-same n f g (λ i l. h i (omega arith)), h n (omega arith))

-- a row that is clean stays
clean_row-again : (settings : Settings) (row : List ℕ) → LegalSettings settings → length row ≡ 256 * channels settings → clean_row settings (clean_row settings row) ≡ clean_row settings row
unfolding clean_row
clean_row-again settings row under long =
    joined-cong _ _ (channels settings)
    (λ c h. ap (clean (end_at settings c)) (piece-clean settings under row long c h) ∙ clean-clean (end_at settings c) (piece 256 c row) (end-inside settings under row long c h))

module _ (settings : Settings) (codes : List ℕ) (under : LegalSettings settings) (long : length codes ≡ 256 * channels settings * 6) where
  row-again : (b : ℕ) → b < 6 → clean_row settings (row_of settings b (cleaned settings codes)) ≡ clean_row settings (row_of settings b codes)
  row-again b h =
      ap (clean_row settings) (row-cleaned settings codes under long b h) ∙ clean_row-again settings (row_of settings b codes) under (length-row settings codes b long h)

  pub cleaned-again : cleaned settings (cleaned settings codes) ≡ cleaned settings codes
  unfolding cleaned
  cleaned-again = joined-cong _ _ 6 row-again

  mantissas-same : (row : List ℕ) (b : ℕ) → b < 6 → mantissa_bits settings row (row_of settings b (cleaned settings codes)) ≡ mantissa_bits settings row (row_of settings b codes)
  unfolding mantissa_bits
  mantissas-same row b h = ap (stream (bap_row settings row)) (row-again b h)

  pub cleaned-bits : (exps : List ℕ) → body_bits settings exps (cleaned settings codes) ≡ body_bits settings exps codes
  unfolding body_bits block_bits
  cleaned-bits exps =
      joined-cong _ _ 6 (λ b h. ap (λ (l : List Bool). sets_bits settings b (row_of settings b exps) ++ l) (mantissas-same (row_of settings b exps) b h))

  pub cleaned-counts : (exps : List ℕ) → counts_of settings exps (cleaned settings codes) ≡ counts_of settings exps codes
  unfolding counts_of mantissa_counts
  cleaned-counts exps =
      ap (λ (l : List ℕ). exponent_counts settings exps 6 ++ l) (tab-cong _ _ 6 (λ b h. ap length (mantissas-same (row_of settings b exps) b h)))

  pub cleaned-legal : (exps : List ℕ) → codes_legal settings exps (cleaned settings codes) ≡ codes_legal settings exps codes
  unfolding codes_legal
  cleaned-legal exps =
      all-below-same 6 _ _ (λ b h. ap (coded (bap_row settings (row_of settings b exps))) (row-again b h))
