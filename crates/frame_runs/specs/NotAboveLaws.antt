-- An exponent of a frame serves its bin in every block of a run. It is not above the exponent that is extracted from the coefficient in any of them.
use Prim.Native.Nat.{ℕ, zero, suc, ◌+◌, ◌-◌, ◌*◌, ◌≤◌, ◌<◌}
use mathlib.Core.List.{List, [], ◌∷◌}
use Rattle.std.specs.Prelude.{◌≡◌, refl, Float, length, take, get_or}
use Rattle.std.proofs.Common.{ap, ◌∙◌, le_of_eq}
use Rattle.std.proofs.Math.Decide.{dec_lt}
use Rattle.std.proofs.Math.Nat.{add-zero, le_trans}
use native.Mathlib.Omega.{arith}
use Rattle.elements.specs.Strategy.{grpsize}
use Rattle.elements.specs.declared.set.ExponentSet.TheVariants.{Reuse, New}
use Rattle.elements.specs.declared.strategy.Strategy.{Strategy}
use Rattle.frame.specs.Under.{channel-known, one_of_two, by-reuse, by-new}
use Rattle.shaping.specs.Extract.{exponent_of}
use Rattle.shaping.specs.Passes.{preprocessed}
use Rattle.shaping.proofs.ShapedLaws.{preprocessed-not-above, quantised-not-above}
use Rattle.sheet.specs.Settings.{channels, end_at, set_at}
use Rattle.sheet.specs.LegalSettings.{LegalSettings}
use Rattle.sheet.specs.declared.settings.Settings.{Settings}
use Rattle.frame_runs.specs.FramedLaws.{below_row}
use Rattle.frame.specs.Layout.{below_end}
use Rattle.frame_runs.specs.Runs.{exponents_of, least_of, least_from, run_least, run_exponents, run_part, part_at, exps_of}
use Rattle.frame_runs.specs.RunsLaws.{whole_below}
use Rattle.frame_runs.specs.RunsLegal.{run-taken, reuse-part, new-part, first-new, part-exps_of}

-- ---- the least of two blocks

least-left : (xs ys : List ℕ) (i : ℕ) → get_or (least_of xs ys) i 0 ≤ get_or xs i 0
unfolding least_of
least-left [] ys i = omega arith
least-left (x ∷ xs) [] i = omega arith
least-left (x ∷ xs) (y ∷ ys) zero = omega arith
least-left (x ∷ xs) (y ∷ ys) (suc i) = least-left xs ys i

least-right : (xs ys : List ℕ) (i : ℕ) → get_or (least_of xs ys) i 0 ≤ get_or ys i 0
unfolding least_of
least-right [] ys i = omega arith
least-right (x ∷ xs) [] i = omega arith
least-right (x ∷ xs) (y ∷ ys) zero = omega arith
least-right (x ∷ xs) (y ∷ ys) (suc i) = least-right xs ys i

exponent-at : (xs : List Float) (i : ℕ) (z : Float) → i < length xs → get_or (exponents_of xs) i 0 ≡ exponent_of (get_or xs i z)
unfolding exponents_of
exponent-at [] i z h = absurd (omega arith)
exponent-at (x ∷ xs) zero z h = refl
exponent-at (x ∷ xs) (suc i) z h = exponent-at xs i z (omega arith)

-- ---- the least of a run, at a bin

module _ (settings : Settings) (coeffs : List Float) (c i : ℕ) where
  -- the exponent that is extracted in block b
  abbrev extracted_in : ℕ → ℕ
  extracted_in b = get_or (exponents_of (below_end settings b c coeffs)) i 0

  from_start : (left b : ℕ) (least : List ℕ) → get_or (least_from settings coeffs c left b least) i 0 ≤ get_or least i 0
  unfolding least_from
  from_start zero b least = omega arith
  from_start (suc left) b least =
      let block = exponents_of (below_end settings b c coeffs) in
      one_of_two (set_at settings b c)
      (λ z. rw (by-reuse _ _ z) (le_trans (from_start left (suc b) (least_of least block)) (least-left least block i)))
      (λ strategy z. rw (by-new _ _ strategy z) (omega arith))

  -- d blocks after b, where all up to there are reuse blocks
  from_block : (left b d : ℕ) (least : List ℕ) → d < left → ((j : ℕ) → j ≤ d → set_at settings (b + j) c ≡ Reuse)
      → get_or (least_from settings coeffs c left b least) i 0 ≤ extracted_in (b + d)
  unfolding least_from
  from_block zero b d least l r = absurd (omega arith)
  from_block (suc left) b zero least l r =
      let block = exponents_of (below_end settings b c coeffs) in
      let here : set_at settings b c ≡ Reuse = rw (add-zero b) at (r 0 (omega arith)) in
      rw (by-reuse _ _ here, add-zero b) (le_trans (from_start left (suc b) (least_of least block)) (least-right least block i))
  from_block (suc left) b (suc d) least l r =
      let block = exponents_of (below_end settings b c coeffs) in
      let here : set_at settings b c ≡ Reuse = rw (add-zero b) at (r 0 (omega arith)) in
      let e : b + suc d ≡ suc b + d = omega arith in
      rw (by-reuse _ _ here, e)
      (from_block left (suc b) d (least_of least block) (omega arith) (λ j k. (let f : suc b + j ≡ b + suc j = omega arith in rw f (r (suc j) (omega arith)))))

  -- a run that begins with block `first` and goes on to block b at least
  run-serves : (first b : ℕ) → first ≤ b → b < 6 → ((j : ℕ) → first < j → j ≤ b → set_at settings j c ≡ Reuse) → get_or (run_least settings coeffs first c) i 0 ≤ extracted_in b
  unfolding run_least
  run-serves first b l hb r = by_place (dec_lt first b)
    where
      start : List ℕ
      start = exponents_of (below_end settings first c coeffs)

      by_place : Dec (first < b) → get_or (least_from settings coeffs c (5 - first) (suc first) start) i 0 ≤ extracted_in b
      by_place (no k) = let e : b ≡ first = omega (arith, l, k) in rw e (from_start (5 - first) (suc first) start)
      by_place (yes k) =
          let e : suc first + (b - suc first) ≡ b = omega (arith, k) in
          rw e at (from_block (5 - first) (suc first) (b - suc first) start (omega (arith, k, hb)) (λ j m. r (suc first + j) (omega arith) (omega (arith, k, m))))

-- ---- the frame

module _ (settings : Settings) (coeffs : List Float) (under : LegalSettings settings) (whole : length coeffs ≡ 256 * channels settings * 6) (c : ℕ) (hc : c < channels settings) where
  -- the run of block b
  record RunOf (b : ℕ) : Type 0 where
    first : ℕ
    strategy : Strategy
    begins : first ≤ b
    part : part_at settings coeffs b c ≡ run_part settings coeffs first c strategy
    reused : (j : ℕ) → first < j → j ≤ b → set_at settings j c ≡ Reuse

  begun : (b : ℕ) (strategy : Strategy) → set_at settings b c ≡ New strategy → RunOf b
  begun b strategy new =
      record { first = b; strategy = strategy; begins = omega arith; part = new-part settings coeffs under whole b c strategy new; reused = λ j k l. absurd (omega arith) }

  run_of : (b : ℕ) → b < 6 → RunOf b
  run_of zero hb = first-new settings coeffs under whole c hc (λ strategy new. begun 0 strategy new)
  run_of (suc b) hb = one_of_two (set_at settings (suc b) c) (λ z. goes_on z (run_of b (omega arith))) (λ strategy new. begun (suc b) strategy new)
    where
      goes_on : set_at settings (suc b) c ≡ Reuse → RunOf b → RunOf (suc b)
      goes_on z r = record {
        first = r.first;
        strategy = r.strategy;
        begins = omega (arith, r.begins);
        part = reuse-part settings coeffs under whole b c z ∙ r.part;
        reused = λ j k l. still j k l (dec_lt b j);
      }
        where
          still : (j : ℕ) → r.first < j → j ≤ suc b → Dec (b < j) → set_at settings j c ≡ Reuse
          still j k l (yes m) = let e : j ≡ suc b = omega (arith, l, m) in rw e z
          still j k l (no m) = r.reused j k (omega (arith, m))

  -- at every bin below the end
  pub exponent-not-above : (b i : ℕ) (z : Float) → b < 6 → i < end_at settings c
      → get_or (below_end settings b c (exps_of settings coeffs)) i 0 ≤ exponent_of (get_or (below_end settings b c coeffs) i z)
  exponent-not-above b i z hb hi = le_trans (le_of_eq at-run) (le_trans shaped (le_trans served (le_of_eq (exponent-at (below_end settings b c coeffs) i z inside))))
    where
      r : RunOf b
      r = run_of b hb

      inside : i < length (below_end settings b c coeffs)
      inside = omega (arith, hi, whole_below settings b c coeffs under hb hc whole)

      at-run : get_or (below_end settings b c (exps_of settings coeffs)) i 0 ≡ get_or (run_exponents settings coeffs r.first c r.strategy) i 0
      at-run =
          ap (λ (l : List ℕ). get_or l i 0) (below_row settings b c (exps_of settings coeffs) hc (omega (arith, (channel-known settings under c hc).end-most))
          ∙ ap (take (end_at settings c)) (part-exps_of settings coeffs under whole b c hb hc ∙ r.part)
          ∙ run-taken settings coeffs under whole r.first c (omega (arith, hb, r.begins)) hc r.strategy)

      shaped : get_or (run_exponents settings coeffs r.first c r.strategy) i 0 ≤ get_or (run_least settings coeffs r.first c) i 0
      shaped =
          let least = run_least settings coeffs r.first c in
          unfold run_exponents in le_trans (quantised-not-above (grpsize r.strategy) (preprocessed least) i) (preprocessed-not-above least i)

      served : get_or (run_least settings coeffs r.first c) i 0 ≤ get_or (exponents_of (below_end settings b c coeffs)) i 0
      served = run-serves settings coeffs c i r.first b r.begins hb r.reused
