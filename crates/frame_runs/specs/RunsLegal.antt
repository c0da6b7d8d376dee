-- The exponents that are worked out of coefficients are legal: each new set is shaped for its strategy, each reuse block repeats the
-- block before, and there is nothing from an end on.
use Prim.Native.Nat.{ℕ, zero, suc, ◌-◌, ◌*◌, ◌<◌}
use Rattle.std.specs.Prelude.{true, ◌≡◌, Float, length, take}
use mathlib.Core.List.{List, ◌++◌}
use Rattle.std.proofs.Common.{sym, ◌∙◌, arith}
use Rattle.std.proofs.Math.Path.{ap}
use Rattle.std.proofs.Math.ListN.{replicate}
use Rattle.std.proofs.Math.Seq.{take_at}
use Rattle.bits.specs.Parts.{piece}
use Rattle.elements.specs.Strategy.{grpsize}
use Rattle.elements.specs.declared.set.ExponentSet.TheVariants.{Reuse, New}
use Rattle.elements.specs.declared.strategy.Strategy.{Strategy}
use Rattle.frame.specs.Layout.{row_of, clean, cleaned}
use Rattle.frame.specs.Legal.{part_legal, row_legal, exps_legal}
use Rattle.frame.specs.LegalLaws.{alike-itself}
use Rattle.frame.specs.Reader.{earlier}
use Rattle.frame.specs.Under.{channel-known, one_of_two, by-reuse, by-new}
use Rattle.frame_rows.specs.LegalLaws.{earlier-taken}
use Rattle.shaping.specs.GroupsLaws.{is_span-grpsize}
use Rattle.shaping.specs.Shaped.{shaped_for}
use Rattle.shaping.proofs.ShapedLaws.{run-shaped, shaped_of}
use Rattle.sheet.specs.Tests.{all_hold}
use Rattle.sheet.specs.Settings.{channels, end_at, set_at}
use Rattle.sheet.specs.LegalSettings.{LegalSettings}
use Rattle.sheet.specs.declared.settings.Settings.{Settings}
use Rattle.frame_runs.specs.FramedLaws.{length-framed, part-framed, framed-clean}
use Rattle.frame_runs.specs.LengthsLaws.{length-run_least, length-run_exponents, length-part_at}
use Rattle.frame_runs.specs.Runs.{run_least, run_exponents, run_part, part_at, exps_of}

-- ---- tests that hold

legal-reuse : (end : ℕ) (old part : List ℕ) → take end old ≡ take end part → part_legal Reuse end old part ≡ true
unfolding part_legal
legal-reuse end old part e = rw e (alike-itself (take end part))

legal-new : (strategy : Strategy) (end : ℕ) (old part : List ℕ) → shaped_for (grpsize strategy - 1) (take end part) ≡ true → part_legal (New strategy) end old part ≡ true
unfolding part_legal
legal-new strategy end old part h = h

module _ (settings : Settings) (coeffs : List Float) (under : LegalSettings settings) (whole : length coeffs ≡ 256 * channels settings * 6) where
  -- ---- a channel's part of a block

  module _ (b c : ℕ) (hb : b < 6) (hc : c < channels settings) (strategy : Strategy) where
    pub run-taken : take (end_at settings c) (run_part settings coeffs b c strategy) ≡ run_exponents settings coeffs b c strategy
    unfolding run_part
    run-taken = take_at (run_exponents settings coeffs b c strategy) _ (end_at settings c) (length-run_exponents settings coeffs under whole c hc b hb strategy)

    run-clean : clean (end_at settings c) (run_part settings coeffs b c strategy) ≡ run_part settings coeffs b c strategy
    unfolding clean run_part
    run-clean = ap (λ (l : List ℕ). l ++ replicate (256 - end_at settings c) 0) run-taken

    run-legal : (old : List ℕ) → part_legal (New strategy) (end_at settings c) old (run_part settings coeffs b c strategy) ≡ true
    unfolding run_exponents
    run-legal old =
        let least = length-run_least settings coeffs under whole c hc b hb in
        let most = (channel-known settings under c hc).end-most in
        legal-new strategy (end_at settings c) old (run_part settings coeffs b c strategy)
        (rw run-taken (shaped_of _ _ (run-shaped (grpsize strategy) (run_least settings coeffs b c) (is_span-grpsize strategy) (omega arith))))

  pub reuse-part : (b c : ℕ) → set_at settings (suc b) c ≡ Reuse → part_at settings coeffs (suc b) c ≡ part_at settings coeffs b c
  unfolding part_at
  reuse-part b c z = by-reuse _ _ z

  pub new-part : (b c : ℕ) (strategy : Strategy) → set_at settings b c ≡ New strategy → part_at settings coeffs b c ≡ run_part settings coeffs b c strategy
  unfolding part_at
  new-part zero c strategy new = by-new _ _ strategy new
  new-part (suc b) c strategy new = by-new _ _ strategy new

  -- block 0 has a new set
  pub first-new : {X : Type 0} (c : ℕ) → c < channels settings → ((strategy : Strategy) → set_at settings 0 c ≡ New strategy → X) → X
  first-new c hc = one_of_two (set_at settings 0 c) (λ z. absurd ((channel-known settings under c hc).first z))

  part-clean : (b c : ℕ) → b < 6 → c < channels settings → clean (end_at settings c) (part_at settings coeffs b c) ≡ part_at settings coeffs b c
  part-clean zero c hb hc = first-new c hc (λ strategy new. rw (new-part 0 c strategy new) (run-clean 0 c hb hc strategy))
  part-clean (suc b) c hb hc =
      one_of_two (set_at settings (suc b) c)
      (λ z. rw (reuse-part b c z) (part-clean b c (omega arith) hc))
      (λ strategy new. rw (new-part (suc b) c strategy new) (run-clean (suc b) c hb hc strategy))

  -- ---- the frame

  abbrev long : (b c : ℕ) → b < 6 → c < channels settings → length (part_at settings coeffs b c) ≡ 256
  long = length-part_at settings coeffs under whole

  pub length-exps_of : length (exps_of settings coeffs) ≡ 256 * channels settings * 6
  unfolding exps_of
  length-exps_of = length-framed settings (part_at settings coeffs) long

  pub part-exps_of : (b c : ℕ) → b < 6 → c < channels settings → piece 256 c (row_of settings b (exps_of settings coeffs)) ≡ part_at settings coeffs b c
  unfolding exps_of
  part-exps_of = part-framed settings (part_at settings coeffs) long

  -- nothing stands from an end on
  pub exps_of-clean : cleaned settings (exps_of settings coeffs) ≡ exps_of settings coeffs
  unfolding exps_of
  exps_of-clean = framed-clean settings (part_at settings coeffs) long part-clean

  part-legal : (b c : ℕ) → b < 6 → c < channels settings
      → part_legal (set_at settings b c) (end_at settings c) (piece 256 c (earlier settings (exps_of settings coeffs) b)) (part_at settings coeffs b c) ≡ true
  part-legal zero c hb hc = first-new c hc (λ strategy new. rw (new-part 0 c strategy new, new) (run-legal 0 c hb hc strategy _))
  part-legal (suc b) c hb hc =
      let exps = exps_of settings coeffs in
      one_of_two (set_at settings (suc b) c)
      (λ z. rw z (legal-reuse (end_at settings c) (piece 256 c (earlier settings exps (suc b))) (part_at settings coeffs (suc b) c)
      (earlier-taken settings exps under length-exps_of b c hb hc ∙ ap (take (end_at settings c)) (part-exps_of b c (omega arith) hc ∙ sym (reuse-part b c z)))))
      (λ strategy new. rw (new-part (suc b) c strategy new, new) (run-legal (suc b) c hb hc strategy _))

  row-legal : (b : ℕ) → b < 6 → row_legal settings b (earlier settings (exps_of settings coeffs) b) (row_of settings b (exps_of settings coeffs)) ≡ true
  unfolding row_legal
  row-legal b hb =
      let old = earlier settings (exps_of settings coeffs) b in
      let row = row_of settings b (exps_of settings coeffs) in
      all_hold (channels settings) (λ c. part_legal (set_at settings b c) (end_at settings c) (piece 256 c old) (piece 256 c row))
      (λ c hc. rw (part-exps_of b c hb hc) (part-legal b c hb hc))

  -- cause 4 is never met
  pub exps_of-legal : exps_legal settings (exps_of settings coeffs) ≡ true
  unfolding exps_legal
  exps_of-legal = all_hold 6 (λ b. row_legal settings b (earlier settings (exps_of settings coeffs) b) (row_of settings b (exps_of settings coeffs))) row-legal
