-- A body is short, so the sum of its twelve counts fits in 32 bits: a set has at most 4 + 7 × 84 = 592 bits and a bin at most 16,
-- a block of six channels 6 × (592 + 256 × 16) = 28128, and six blocks 168768.
use Rattle.std.specs.Prelude.{ℕ, ◌*◌, ◌≤◌, ◌≡◌, true, List, length}
use native.Mathlib.Omega.{arith}
use Rattle.std.proofs.Math.ListN.{length-append}
use Rattle.bits.specs.Parts.{piece}
use Rattle.elements.specs.declared.set.ExponentSet.{ExponentSet}
use Rattle.elements.specs.declared.set.ExponentSet.TheVariants.{Reuse, New}
use Rattle.elements.specs.Strategy.{grpsize}
use Rattle.exponents.specs.GroupsLaws.{count-thirds, count-reaches}
use Rattle.mantissas.proofs.BlocksLaws.{joined-most}
use Rattle.mantissas.specs.CodedLaws.{coded-baps}
use Rattle.mantissas.specs.Count.{length-stream, bits_most}
use Rattle.mantissas.specs.Inner.{Coded}
use Rattle.shaping.specs.GroupsLaws.{is_span-grpsize}
use Rattle.sheet.specs.Ranges.{legal_end}
use Rattle.sheet.specs.Settings.{channels, end_at, set_at}
use Rattle.sheet.specs.LegalSettings.{LegalSettings}
use Rattle.sheet.proofs.SettingsLaws.{channels-bounds}
use Rattle.sheet.specs.declared.settings.Settings.{Settings}
use Rattle.frame.specs.Layout.{row_of, clean_row}
use Rattle.frame.specs.LayoutLaws.{length-bap_row, length-row, end-inside}
use Rattle.frame.specs.Body.{sets_bits, bap_row, mantissa_bits, block_bits, body_bits, counts_of, total}
use Rattle.frame.specs.Legal.{codes_legal}
use Rattle.frame.specs.LegalLaws.{legal-codes}
use Rattle.frame.specs.Theorems.{body-count}
use Rattle.frame.specs.Under.{channel-known}
use Rattle.frame_body.specs.Counts.{set_count}
use Rattle.frame_body.specs.Formula.{set-count}

-- a set has at most 84 groups
set-most : (set : ExponentSet) (end : ℕ) → legal_end end ≡ true → set_count set end ≤ 592
unfolding set_count
set-most Reuse end e = omega arith
set-most (New strategy) end e =
    let known = is_span-grpsize strategy in
    omega (arith, count-thirds end (grpsize strategy) e known, count-reaches end (grpsize strategy) e known)

module _ (settings : Settings) (under : LegalSettings settings) where
  sets-most : (b : ℕ) (r : List ℕ) → length r ≡ 256 * channels settings → length (sets_bits settings b r) ≤ 592 * channels settings
  unfolding sets_bits
  sets-most b r long =
      joined-most 592 _ (channels settings)
      (λ c l.
      let legal = (channel-known settings under c l).legal in
      omega (arith, set-count (set_at settings b c) (end_at settings c) (piece 256 c r) legal (end-inside settings under r long c l), set-most (set_at settings b c) (end_at settings c) legal))

  mantissas-most : (r codes : List ℕ) → Coded (bap_row settings r) (clean_row settings codes) → length (mantissa_bits settings r codes) ≤ 16 * (256 * channels settings)
  unfolding mantissa_bits
  mantissas-most r codes h = omega (arith, length-stream h, bits_most (coded-baps h), length-bap_row settings r)

  -- a body has at most 168,768 bits
  pub body-most : (exps codes : List ℕ) → length exps ≡ 256 * channels settings * 6 → codes_legal settings exps codes ≡ true → length (body_bits settings exps codes) ≤ 168768
  unfolding body_bits block_bits
  body-most exps codes long legal =
      joined-most 28128 _ 6
      (λ b l.
      let s = sets_bits settings b (row_of settings b exps) in
      let m = mantissa_bits settings (row_of settings b exps) (row_of settings b codes) in
      omega (
        arith,
        length-append s m,
        sets-most b (row_of settings b exps) (length-row settings exps b long l),
        mantissas-most (row_of settings b exps) (row_of settings b codes) (legal-codes settings exps codes legal b l),
        channels-bounds under,
      ))

  -- what `body_size` asks of the twelve counts
  pub counts-most : (exps codes : List ℕ) → length exps ≡ 256 * channels settings * 6 → codes_legal settings exps codes ≡ true → total (counts_of settings exps codes) ≤ 168768
  counts-most exps codes long legal = omega (arith, body-count settings exps codes, body-most exps codes long legal)
