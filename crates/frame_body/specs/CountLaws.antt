-- The counts from the baps are the body's, whatever the codes are.
use Rattle.std.specs.Prelude.{ℕ, ◌*◌, ◌<◌, ◌≡◌, true, length}
use Rattle.std.proofs.Math.Path.{sym, ap₂}
use Rattle.std.proofs.Common.{ap, ◌∙◌}
use mathlib.Core.List.{List, ◌++◌}
use Rattle.bits.specs.PartsLaws.{tab-cong}
use Rattle.mantissas.specs.Blocks.{block_baps}
use Rattle.mantissas.specs.CodedLaws.{coded-baps}
use Rattle.mantissas.specs.Count.{length-stream}
use Rattle.mantissas.specs.Inner.{Coded}
use Rattle.mantissas.specs.Stream.{stream, bit_count}
use Rattle.sheet.specs.LegalSettings.{LegalSettings}
use Rattle.sheet.specs.Settings.{channels}
use Rattle.sheet.specs.declared.settings.Settings.{Settings}
use Rattle.frame.specs.Body.{bap_row, mantissa_bits, exponent_counts, mantissa_counts, counts_of, baps_of}
use Rattle.frame.specs.Layout.{row_of}
use Rattle.frame.specs.LayoutLaws.{length-row}
use Rattle.frame.specs.Legal.{codes_legal}
use Rattle.frame.specs.LegalLaws.{legal-codes}
use Rattle.frame_rows.specs.RowsLaws.{row-baps}
use Rattle.frame_body.specs.BelowLaws.{block-lows, lows-coded, lows-stream}
use Rattle.frame_body.specs.Formula.{sets-count}
use Rattle.frame_body.specs.Writing.{below_ends, BapsFit, counts_from}

module _ (settings : Settings) (exps codes : List ℕ) (under : LegalSettings settings) (exps-long : length exps ≡ 256 * channels settings * 6)
    (codes-long : length codes ≡ 256 * channels settings * 6) (legal : codes_legal settings exps codes ≡ true) where
  block-baps : (b : ℕ) → b < 6 → block_baps settings (baps_of settings exps) b ≡ below_ends settings (bap_row settings (row_of settings b exps))
  block-baps b h = block-lows settings under (baps_of settings exps) b ∙ ap (below_ends settings) (row-baps settings exps b h)

  -- each code below the ends is one of its bap's
  pub block-coded : (b : ℕ) → b < 6 → Coded (block_baps settings (baps_of settings exps) b) (below_ends settings (row_of settings b codes))
  block-coded b h =
      rw (block-baps b h)
      (lows-coded settings under (row_of settings b exps) (row_of settings b codes) (length-row settings codes b codes-long h) (legal-codes settings exps codes legal b h))

  -- what the count asks of the baps of a legal frame
  pub legal-baps : BapsFit settings (baps_of settings exps)
  legal-baps = record { block = λ b h. coded-baps (block-coded b h) }

  mantissas-counted : (b : ℕ) → b < 6
      → bit_count (block_baps settings (baps_of settings exps) b) ≡ length (mantissa_bits settings (row_of settings b exps) (row_of settings b codes))
  mantissas-counted b h =
      let low = below_ends settings (row_of settings b codes) in
      sym (length-stream (block-coded b h))
      ∙ ap (λ (l : List ℕ). length (stream l low)) (block-baps b h)
      ∙ sym (ap length (lows-stream settings under (row_of settings b exps) (row_of settings b codes) (length-row settings codes b codes-long h) (legal-codes settings exps codes legal b h)))

  pub counts-from-baps : counts_from settings (baps_of settings exps) ≡ counts_of settings exps codes
  unfolding counts_from counts_of exponent_counts mantissa_counts
  counts-from-baps =
      ap₂ (λ (x y : List ℕ). x ++ y)
      (tab-cong _ _ 6 (λ b h. sym (sets-count settings under b (row_of settings b exps) (length-row settings exps b exps-long h))))
      (tab-cong _ _ 6 mantissas-counted)
