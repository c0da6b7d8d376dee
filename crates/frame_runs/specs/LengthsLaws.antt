-- How many exponents there are: shaping keeps the number of bins, and so does the least of several blocks.
use Prim.Native.Nat.{ℕ, zero, suc, ◌+◌, ◌-◌, ◌*◌, ◌≤◌, ◌<◌}
use Rattle.std.specs.Prelude.{List, [], ◌∷◌, ◌≡◌, refl, Float, length}
use Rattle.std.proofs.Math.Path.{sym}
use Rattle.std.proofs.Common.{ap, ◌∙◌, arith, length-append}
use Rattle.std.proofs.Math.ListN.{length-replicate}
use Rattle.elements.specs.declared.set.ExponentSet.{ExponentSet}
use Rattle.elements.specs.declared.set.ExponentSet.TheVariants.{Reuse, New}
use Rattle.elements.specs.declared.strategy.Strategy.{Strategy}
use Rattle.frame.specs.Layout.{by_set, below_end}
use Rattle.frame.specs.Under.{channel-known}
use Rattle.shaping.proofs.ShapedLaws.{length-preprocessed, length-quantised}
use Rattle.sheet.specs.Settings.{channels, end_at, set_at}
use Rattle.sheet.specs.LegalSettings.{LegalSettings}
use Rattle.sheet.specs.declared.settings.Settings.{Settings}
use Rattle.frame_runs.specs.Runs.{exponents_of, least_of, least_from, run_least, run_exponents, run_part, part_at}
use Rattle.frame_runs.specs.RunsLaws.{whole_below}

length-by-set : (set : ExponentSet) (reused : List ℕ) (new : Strategy → List ℕ) (n : ℕ) → length reused ≡ n → ((strategy : Strategy) → length (new strategy) ≡ n)
    → length (by_set set reused new) ≡ n
unfolding by_set
length-by-set Reuse reused new n h k = h
length-by-set (New strategy) reused new n h k = k strategy

length-exponents_of : (xs : List Float) → length (exponents_of xs) ≡ length xs
unfolding exponents_of
length-exponents_of [] = refl
length-exponents_of (x ∷ xs) = ap suc (length-exponents_of xs)

length-least_of : (xs ys : List ℕ) → length xs ≡ length ys → length (least_of xs ys) ≡ length xs
unfolding least_of
length-least_of [] ys e = refl
length-least_of (x ∷ xs) [] e = absurd (omega arith)
length-least_of (x ∷ xs) (y ∷ ys) e = ap suc (length-least_of xs ys (omega arith))

module _ (settings : Settings) (coeffs : List Float) (under : LegalSettings settings) (whole : length coeffs ≡ 256 * channels settings * 6) (c : ℕ) (h : c < channels settings) where
  length-extracted : (b : ℕ) → b < 6 → length (exponents_of (below_end settings b c coeffs)) ≡ end_at settings c
  length-extracted b hb = length-exponents_of (below_end settings b c coeffs) ∙ whole_below settings b c coeffs under hb h whole

  length-least_from : (left b : ℕ) (least : List ℕ) → left + b ≤ 6 → length least ≡ end_at settings c → length (least_from settings coeffs c left b least) ≡ end_at settings c
  unfolding least_from
  length-least_from zero b least k e = e
  length-least_from (suc left) b least k e =
      let block = exponents_of (below_end settings b c coeffs) in
      let one = length-extracted b (omega arith) in
      length-by-set (set_at settings b c) _ (λ strategy. least) (end_at settings c)
      (length-least_from left (suc b) (least_of least block) (omega arith) (length-least_of least block (e ∙ sym one) ∙ e)) (λ strategy. e)

  pub length-run_least : (b : ℕ) → b < 6 → length (run_least settings coeffs b c) ≡ end_at settings c
  unfolding run_least
  length-run_least b hb = length-least_from (5 - b) (suc b) _ (omega arith) (length-extracted b hb)

  pub length-run_exponents : (b : ℕ) → b < 6 → (strategy : Strategy) → length (run_exponents settings coeffs b c strategy) ≡ end_at settings c
  unfolding run_exponents
  length-run_exponents b hb strategy = length-quantised _ _ ∙ length-preprocessed _ ∙ length-run_least b hb

  length-run_part : (b : ℕ) → b < 6 → (strategy : Strategy) → length (run_part settings coeffs b c strategy) ≡ 256
  unfolding run_part
  length-run_part b hb strategy =
      rw (length-append, length-run_exponents b hb strategy, length-replicate {A = ℕ} (256 - end_at settings c) 0)
      (omega (arith, (channel-known settings under c h).end-most))

  length_part : (b : ℕ) → b < 6 → length (part_at settings coeffs b c) ≡ 256
  unfolding part_at
  length_part zero hb = length-by-set (set_at settings 0 c) _ _ 256 (length-replicate {A = ℕ} 256 0) (length-run_part 0 hb)
  length_part (suc b) hb = length-by-set (set_at settings (suc b) c) _ _ 256 (length_part b (omega arith)) (length-run_part (suc b) hb)

pub length-part_at : (settings : Settings) (coeffs : List Float) → LegalSettings settings → length coeffs ≡ 256 * channels settings * 6
    → (b c : ℕ) → b < 6 → c < channels settings → length (part_at settings coeffs b c) ≡ 256
length-part_at settings coeffs under whole b c hb hc = length_part settings coeffs under whole c hc b hb
