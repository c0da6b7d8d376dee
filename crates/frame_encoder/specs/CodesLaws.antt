-- A channel's part of a frame that is allocated can be coded: its coefficients are finite, its exponents at most 24, its baps at most 15.
use Rattle.std.specs.Prelude.{ℕ, zero, suc, ◌-◌, ◌*◌, ◌≤◌, ◌<◌, List, [], ◌∷◌, ◌++◌, ◌≡◌, Float, length, take, get_or, replicate}
use Rattle.std.proofs.Common.{sym, ap, ◌∙◌, arith, get_or-take}
use Rattle.allocation.specs.AllocationLaws.{allocated-most}
use Rattle.bits.specs.Parts.{piece}
use Rattle.sheet.specs.Settings.{channels, end_at}
use Rattle.sheet.specs.LegalSettings.{LegalSettings}
use Rattle.sheet.specs.declared.settings.Settings.{Settings}
use Rattle.frame.specs.Body.{bap_part, baps_of}
use Rattle.frame.specs.Layout.{row_of, below_end}
use Rattle.frame.specs.LayoutLaws.{piece-bap}
use Rattle.frame.specs.Under.{channel-known}
use Rattle.frame_rows.specs.LegalLaws.{legal-low}
use Rattle.frame_rows.specs.RowsLaws.{length-baps, row-baps}
use Rattle.frame_runs.specs.Inner.{Encodable}
use Rattle.frame_runs.specs.FiniteLaws.{finite-below}
use Rattle.frame_runs.specs.FramedLaws.{below_row}
use Rattle.frame_runs.specs.RunsLaws.{whole_below}
use Rattle.frame_encoder.specs.Codes.{codes_for, code_part}
use Rattle.frame_encoder.specs.Made.{Codable, Allocated}

-- ---- a channel's part

taken-most : (n m : ℕ) (l : List ℕ) → ((i : ℕ) → get_or l i 0 ≤ m) → (i : ℕ) → get_or (take n l) i 0 ≤ m
taken-most zero m l h i = omega arith
taken-most (suc n) m [] h i = omega arith
taken-most (suc n) m (x ∷ l) h zero = h 0
taken-most (suc n) m (x ∷ l) h (suc i) = taken-most n m l (λ j. h (suc j)) i

pub bap-most : (settings : Settings) (c : ℕ) (part : List ℕ) (i : ℕ) → get_or (bap_part settings c part) i 0 ≤ 15
unfolding bap_part
bap-most settings c part i = allocated-most _ _ _ part 256 i

module _ (settings : Settings) (under : LegalSettings settings) (b c : ℕ) (hb : b < 6) (hc : c < channels settings) where
  pub end-held : end_at settings c ≤ 256
  end-held = omega (arith, (channel-known settings under c hc).end-most)

  -- the baps of the part
  pub bap-below : (exps : List ℕ) → below_end settings b c (baps_of settings exps) ≡ take (end_at settings c) (bap_part settings c (piece 256 c (row_of settings b exps)))
  bap-below exps =
      below_row settings b c (baps_of settings exps) hc end-held
      ∙ ap (λ (r : List ℕ). take (end_at settings c) (piece 256 c r)) (row-baps settings exps b hb)
      ∙ ap (take (end_at settings c)) (piece-bap settings (row_of settings b exps) c hc)

  pub codable-part : (coeffs : List Float) (exps bap : List ℕ) → Encodable settings coeffs → Allocated settings exps bap
      → Codable (below_end settings b c coeffs) (below_end settings b c exps) (below_end settings b c bap)
  codable-part coeffs exps bap e a =
      let n = whole_below settings b c coeffs under hb hc e.whole in
      let part = piece 256 c (row_of settings b exps) in
      record {
        all-finite = finite-below settings coeffs b c e.finite hb hc;
        exps-long = whole_below settings b c exps under hb hc a.whole ∙ sym n;
        bap-long = whole_below settings b c bap under hb hc (ap length a.is ∙ length-baps settings exps) ∙ sym n;
        low = λ i l.
            let below : i < end_at settings c = omega (arith, n, l) in
            rw (below_row settings b c exps hc end-held, get_or-take (end_at settings c) part i 0 below) ((legal-low settings exps under a.whole a.legal b hb).low c hc i below);
        fit = λ i. rw (a.is, bap-below exps) (taken-most (end_at settings c) 15 (bap_part settings c part) (bap-most settings c part) i);
      }

  pub part-is : (coeffs : List Float) (exps bap : List ℕ) → length coeffs ≡ 256 * channels settings * 6
      → codes_for (below_end settings b c coeffs) (below_end settings b c exps) (below_end settings b c bap) ++ replicate (256 - length (below_end settings b c coeffs)) 0
      ≡ code_part settings coeffs exps bap b c
  unfolding code_part
  part-is coeffs exps bap whole = rw (whole_below settings b c coeffs under hb hc whole)
