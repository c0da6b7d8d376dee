-- The codes of a frame are legal: as many as there are bins, each in range for its bap, none from end on. And each is that of its coefficient.
use Rattle.std.specs.Prelude.{ℕ, zero, suc, ◌+◌, ◌-◌, ◌*◌, ◌≤◌, ◌<◌, true, ◌≡◌, refl, Float, drop}
use mathlib.Core.List.{List, [], ◌∷◌, ◌++◌}
use Rattle.std.proofs.Math.Path.{ap, subst}
use Rattle.std.proofs.Common.{◌∙◌, arith, length-append, get_or-drop}
use Rattle.std.proofs.Math.ListN.{length, take, get_or, replicate, length-drop, length-replicate, take-append-drop}
use Rattle.std.proofs.Math.Seq.{take_at}
use Rattle.bits.specs.Parts.{joined, piece}
use Rattle.frame.specs.Body.{bap_part, bap_row, baps_of}
use Rattle.frame.specs.Layout.{row_of, clean, clean_row, below_end, cleaned}
use Rattle.frame.specs.LayoutLaws.{length-bap_part}
use Rattle.frame.specs.Legal.{codes_legal, LegalFrame}
use Rattle.frame_rows.specs.RowsLaws.{length-baps}
use Rattle.frame_runs.specs.Inner.{Encodable}
use Rattle.frame_runs.specs.FramedLaws.{length-framed, part-framed, row-framed-clean, framed-clean, below_row}
use Rattle.frame_runs.specs.Runs.{exps_of}
use Rattle.frame_runs.specs.RunsLaws.{whole_below}
use Rattle.frame_runs.specs.RunsLegal.{length-exps_of, exps_of-legal}
use Rattle.mantissas.specs.CodedLaws.{coded-is}
use Rattle.mantissas.specs.RangesLaws.{row}
use Rattle.mantissas.specs.Stream.{coded}
use Rattle.mantissas.specs.Inner.{Coded, empty, bin}
use Rattle.quantiser.specs.Code.{code_of}
use Rattle.quantiser.specs.CodeLaws.{code-in-range}
use Rattle.sheet.specs.Tests.{all_hold}
use Rattle.sheet.specs.Settings.{channels, end_at}
use Rattle.sheet.specs.LegalSettings.{LegalSettings}
use Rattle.sheet.specs.declared.settings.Settings.{Settings}
use Rattle.frame_encoder.specs.Codes.{codes_for, code_part, codes_at, codes_of}
use Rattle.frame_encoder.specs.CodesLaws.{bap-most, end-held, bap-below, codable-part}
use Rattle.frame_encoder.specs.Made.{Codable, Allocated, Made}

-- ---- codes in range, put together

coded-append : {bs cs ds es : List ℕ} → Coded bs cs → Coded ds es → Coded (bs ++ ds) (cs ++ es)
coded-append empty k = k
coded-append (bin hb hc h) k = bin hb hc (coded-append h k)

coded-joined : (f g : ℕ → List ℕ) (n : ℕ) → ((i : ℕ) → i < n → Coded (f i) (g i)) → Coded (joined n f) (joined n g)
unfolding joined
coded-joined f g zero h = empty
coded-joined f g (suc n) h = coded-append (coded-joined f g n (λ i l. h i (omega arith))) (h n (omega arith))

-- the code of a coefficient is in range for its bap
coded-for : (xs : List Float) (exps bap : List ℕ) → length exps ≡ length xs → length bap ≡ length xs → ((i : ℕ) → get_or bap i 0 ≤ 15) → Coded bap (codes_for xs exps bap)
unfolding codes_for
coded-for [] exps [] e f h = empty
coded-for [] exps (b ∷ bap) e f h = absurd (omega arith)
coded-for (x ∷ xs) [] bap e f h = absurd (omega arith)
coded-for (x ∷ xs) (k ∷ exps) [] e f h = absurd (omega arith)
coded-for (x ∷ xs) (k ∷ exps) (b ∷ bap) e f h =
    let l : b < 16 = (let m : b ≤ 15 = h 0 in omega arith) in
    bin l (code-in-range x k b (h 0)) (coded-for xs exps bap (omega arith) (omega arith) (λ i. h (suc i)))

-- the code 0 is in range for every bap
coded-zeros : (bap : List ℕ) (n : ℕ) → length bap ≡ n → ((i : ℕ) → get_or bap i 0 ≤ 15) → Coded bap (replicate n 0)
coded-zeros [] zero e h = empty
coded-zeros [] (suc n) e h = absurd (omega arith)
coded-zeros (b ∷ bap) zero e h = absurd (omega arith)
coded-zeros (b ∷ bap) (suc n) e h =
    let l : b < 16 = (let m : b ≤ 15 = h 0 in omega arith) in
    bin l (row b l).levels-least (coded-zeros bap n (omega arith) (λ i. h (suc i)))

length-codes_for : (xs : List Float) (exps bap : List ℕ) → length exps ≡ length xs → length bap ≡ length xs → length (codes_for xs exps bap) ≡ length xs
unfolding codes_for
length-codes_for [] exps bap e f = refl
length-codes_for (x ∷ xs) [] bap e f = absurd (omega arith)
length-codes_for (x ∷ xs) (k ∷ exps) [] e f = absurd (omega arith)
length-codes_for (x ∷ xs) (k ∷ exps) (b ∷ bap) e f = ap suc (length-codes_for xs exps bap (omega arith) (omega arith))

-- the code at i
code_at : (xs : List Float) (exps bap : List ℕ) (i : ℕ) (z : Float) → length exps ≡ length xs → length bap ≡ length xs → i < length xs
    → get_or (codes_for xs exps bap) i 0 ≡ code_of (get_or xs i z) (get_or exps i 0) (get_or bap i 0)
unfolding codes_for
code_at [] exps bap i z e f h = absurd (omega arith)
code_at (x ∷ xs) [] bap i z e f h = absurd (omega arith)
code_at (x ∷ xs) (k ∷ exps) [] i z e f h = absurd (omega arith)
code_at (x ∷ xs) (k ∷ exps) (b ∷ bap) zero z e f h = refl
code_at (x ∷ xs) (k ∷ exps) (b ∷ bap) (suc i) z e f h = code_at xs exps bap i z (omega arith) (omega arith) (omega arith)

-- ---- a frame's codes

module _ (settings : Settings) (coeffs : List Float) (exps bap : List ℕ) (under : LegalSettings settings) (e : Encodable settings coeffs) (a : Allocated settings exps bap) where
  module _ (b c : ℕ) (hb : b < 6) (hc : c < channels settings) where
    codable : Codable (below_end settings b c coeffs) (below_end settings b c exps) (below_end settings b c bap)
    codable = codable-part settings under b c hb hc coeffs exps bap e a

    length-below-end : length (codes_for (below_end settings b c coeffs) (below_end settings b c exps) (below_end settings b c bap)) ≡ end_at settings c
    length-below-end = length-codes_for _ _ _ codable.exps-long codable.bap-long ∙ whole_below settings b c coeffs under hb hc e.whole

    length-code_part : length (code_part settings coeffs exps bap b c) ≡ 256
    unfolding code_part
    length-code_part =
        rw (length-append, length-below-end, length-replicate {A = ℕ} (256 - end_at settings c) 0) (omega (arith, end-held settings under b c hb hc))

    code_part-clean : clean (end_at settings c) (code_part settings coeffs exps bap b c) ≡ code_part settings coeffs exps bap b c
    unfolding clean code_part
    code_part-clean =
        let zeros = replicate {A = ℕ} (256 - end_at settings c) 0 in
        let front = codes_for (below_end settings b c coeffs) (below_end settings b c exps) (below_end settings b c bap) in
        ap (λ (l : List ℕ). l ++ zeros) (take_at front zeros (end_at settings c) length-below-end)

    code_part-coded : Coded (bap_part settings c (piece 256 c (row_of settings b exps))) (code_part settings coeffs exps bap b c)
    unfolding code_part
    code_part-coded =
        let n = end_at settings c in
        let baps = bap_part settings c (piece 256 c (row_of settings b exps)) in
        let most = bap-most settings c (piece 256 c (row_of settings b exps)) in
        let below : below_end settings b c bap ≡ take n baps = ap (below_end settings b c) a.is ∙ bap-below settings under b c hb hc exps in
        let rest : length (drop n baps) ≡ 256 - n = length-drop n baps ∙ ap (λ (k : ℕ). k - n) (length-bap_part settings c _) in
        let past : (i : ℕ) → get_or (drop n baps) i 0 ≤ 15 = λ i. rw (get_or-drop n baps i 0) (most (n + i)) in
        let codes = codes_for (below_end settings b c coeffs) (below_end settings b c exps) (below_end settings b c bap) in
        let front : Coded (take n baps) codes =
        subst (λ (bs : List ℕ). Coded bs codes) below (coded-for _ _ _ codable.exps-long codable.bap-long codable.fit) in
        rw (← take-append-drop n baps) (coded-append front (coded-zeros (drop n baps) (256 - n) rest past))

  -- each code below an end is that of its coefficient at that bin's exponent and bap
  pub codes_at-at : (b c i : ℕ) (z : Float) → b < 6 → c < channels settings → i < end_at settings c
      → get_or (below_end settings b c (codes_at settings coeffs exps bap)) i 0
      ≡ code_of (get_or (below_end settings b c coeffs) i z) (get_or (below_end settings b c exps) i 0) (get_or (below_end settings b c bap) i 0)
  unfolding codes_at code_part
  codes_at-at b c i z hb hc hi =
      let k = codable b c hb hc in
      let n = end_at settings c in
      let codes = codes_for (below_end settings b c coeffs) (below_end settings b c exps) (below_end settings b c bap) in
      let below : below_end settings b c (codes_at settings coeffs exps bap) ≡ codes =
      below_row settings b c (codes_at settings coeffs exps bap) hc (end-held settings under b c hb hc)
      ∙ ap (take n) (part-framed settings (code_part settings coeffs exps bap) length-code_part b c hb hc)
      ∙ take_at codes (replicate {A = ℕ} (256 - n) 0) n (length-below-end b c hb hc) in
      ap (λ (l : List ℕ). get_or l i 0) below
      ∙ code_at _ _ _ i z k.exps-long k.bap-long (omega (arith, hi, whole_below settings b c coeffs under hb hc e.whole))

  pub length-codes_at : length (codes_at settings coeffs exps bap) ≡ 256 * channels settings * 6
  unfolding codes_at
  length-codes_at = length-framed settings (code_part settings coeffs exps bap) length-code_part

  -- nothing stands from an end on
  pub codes_at-clean : cleaned settings (codes_at settings coeffs exps bap) ≡ codes_at settings coeffs exps bap
  unfolding codes_at
  codes_at-clean = framed-clean settings (code_part settings coeffs exps bap) length-code_part code_part-clean

  row-coded : (b : ℕ) → b < 6 → coded (bap_row settings (row_of settings b exps)) (clean_row settings (row_of settings b (codes_at settings coeffs exps bap))) ≡ true
  unfolding bap_row codes_at
  row-coded b hb =
      rw (row-framed-clean settings (code_part settings coeffs exps bap) length-code_part code_part-clean b hb)
      (coded-is (coded-joined _ (code_part settings coeffs exps bap b) (channels settings) (λ c hc. code_part-coded b c hb hc)))

  -- cause 5 is never met
  pub codes_at-legal : codes_legal settings exps (codes_at settings coeffs exps bap) ≡ true
  unfolding codes_legal
  codes_at-legal = all_hold 6 (λ b. coded (bap_row settings (row_of settings b exps)) (clean_row settings (row_of settings b (codes_at settings coeffs exps bap)))) row-coded

-- ---- the frame of the coefficients

module _ (settings : Settings) (coeffs : List Float) (under : LegalSettings settings) (e : Encodable settings coeffs) where
  pub runs-allocated : Allocated settings (exps_of settings coeffs) (baps_of settings (exps_of settings coeffs))
  runs-allocated = record { whole = length-exps_of settings coeffs under e.whole; legal = exps_of-legal settings coeffs under e.whole; is = refl }

  pub length-codes_of : length (codes_of settings coeffs) ≡ 256 * channels settings * 6
  unfolding codes_of
  length-codes_of = length-codes_at settings coeffs _ _ under e runs-allocated

  pub codes_of-at : (b c i : ℕ) (z : Float) → b < 6 → c < channels settings → i < end_at settings c
      → get_or (below_end settings b c (codes_of settings coeffs)) i 0
      ≡ code_of (get_or (below_end settings b c coeffs) i z) (get_or (below_end settings b c (exps_of settings coeffs)) i 0) (get_or (below_end settings b c (baps_of settings (exps_of settings coeffs))) i 0)
  unfolding codes_of
  codes_of-at = codes_at-at settings coeffs _ _ under e runs-allocated

  pub codes_of-clean : cleaned settings (codes_of settings coeffs) ≡ codes_of settings coeffs
  unfolding codes_of
  codes_of-clean = codes_at-clean settings coeffs _ _ under e runs-allocated

  -- the exponents and codes of the coefficients are a legal frame
  pub encoded-legal : LegalFrame settings (exps_of settings coeffs) (codes_of settings coeffs)
  unfolding codes_of
  encoded-legal = record { shaped = runs-allocated.legal; coded = codes_at-legal settings coeffs _ _ under e runs-allocated }

  pub encoded-made : Made settings (exps_of settings coeffs) (baps_of settings (exps_of settings coeffs)) (codes_of settings coeffs)
  encoded-made =
      record {
        long =
            record {
              exps-long = runs-allocated.whole;
              bap-long = length-baps settings (exps_of settings coeffs);
              codes-long = length-codes_of;
            };
        legal = encoded-legal;
        clean = codes_of-clean;
        is = refl;
      }
