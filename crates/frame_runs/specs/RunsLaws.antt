-- Laws of runs: where a channel's entries stand, and the blocks of a run one after the other.
use Prim.Native.Nat.{ℕ, suc, ◌+◌, ◌-◌, ◌*◌, ◌≤◌, ◌<◌}
use Rattle.std.specs.Prelude.{List, ◌≡◌, Float, length, take, drop, get_or}
use Rattle.std.proofs.Math.Path.{ap}
use Rattle.std.proofs.Common.{◌∙◌, add-one, length-take, length-drop, get_or-take, get_or-drop}
use native.Mathlib.Omega.{arith}
use Rattle.elements.specs.declared.set.ExponentSet.TheVariants.{Reuse, New}
use Rattle.elements.specs.declared.strategy.Strategy.{Strategy}
use Rattle.frame.specs.Under.{channel-known, by-reuse, by-new}
use Rattle.sheet.proofs.Laws.{part-within}
use Rattle.sheet.specs.Layout.{part_start}
use Rattle.sheet.specs.Inner.{PartStart}
use Rattle.sheet.specs.Settings.{channels, end_at, set_at}
use Rattle.sheet.specs.LegalSettings.{ChannelCount, ChannelEnd, LegalSettings}
use Rattle.sheet.specs.declared.settings.Settings.{Settings}
use Rattle.frame.specs.Layout.{below_end}
use Rattle.frame_runs.specs.Runs.{exponents_of, least_of, least_from, run_least}

-- ---- the entries of a channel's block below its end

pub length-below : {A : Type 0} (settings : Settings) (b c : ℕ) (l : List A) → part_start (channels settings) b c + end_at settings c ≤ length l
    → length (below_end settings b c l) ≡ end_at settings c
unfolding below_end
length-below settings b c l h = rw (length-take, length-drop) (omega arith)

-- and where each of them stands in the buffer
pub at-below-end : {A : Type 0} (settings : Settings) (b c i : ℕ) (l : List A) (z : A) → i < end_at settings c
    → get_or (below_end settings b c l) i z ≡ get_or l (part_start (channels settings) b c + i) z
unfolding below_end
at-below-end settings b c i l z h =
    get_or-take (end_at settings c) (drop (part_start (channels settings) b c) l) i z h ∙ get_or-drop (part_start (channels settings) b c) l i z

module _ {settings : Settings} {n : ℕ} (many : ChannelCount settings n) (b c a : ℕ) (p : PartStart n b c a) {end : ℕ} (ends : ChannelEnd settings c end) where
  -- they lie within a buffer
  pub below-fits : (k : ℕ) → k ≡ 256 * channels settings * 6 → a + end ≤ k
  below-fits k e = omega (arith, p.within, many.is, ends.most)

  -- they are what is lent
  pub below-lent : {A : Type 0} (l : List A) → take (a + end - a) (drop a l) ≡ below_end settings b c l
  unfolding below_end
  below-lent l =
      let k : a + end - a ≡ end_at settings c = omega (arith, ends.is) in
      let s : a ≡ part_start (channels settings) b c = p.is ∙ ap (λ (m : ℕ). part_start m b c) many.is in
      rw (k, s)

-- a whole buffer holds them
pub whole_below : {A : Type 0} (settings : Settings) (b c : ℕ) (l : List A) → LegalSettings settings → b < 6 → c < channels settings
    → length l ≡ 256 * channels settings * 6 → length (below_end settings b c l) ≡ end_at settings c
whole_below settings b c l under hb hc e =
    length-below settings b c l (omega (arith, part-within (channels settings) b c hb hc, (channel-known settings under c hc).end-most))

-- ---- the blocks of a run

module _ (settings : Settings) (coeffs : List Float) (c b : ℕ) (least : List ℕ) where
  -- a reuse block is one of the run
  pub run_on : set_at settings b c ≡ Reuse → b < 6 → least_from settings coeffs c (6 - b) b least
      ≡ least_from settings coeffs c (6 - (b + 1)) (b + 1) (least_of least (exponents_of (below_end settings b c coeffs)))
  unfolding least_from
  run_on h l = let e : 6 - b ≡ suc (6 - (b + 1)) = omega arith in rw (e, by-reuse _ _ h, add-one)

  -- a new block ends it
  pub run-stops : (strategy : Strategy) → set_at settings b c ≡ New strategy → b < 6 → least ≡ least_from settings coeffs c (6 - b) b least
  unfolding least_from
  run-stops strategy h l = let e : 6 - b ≡ suc (5 - b) = omega arith in rw (e, by-new _ _ strategy h)

  -- and so does the frame's end
  pub run_ends : 6 ≤ b → least ≡ least_from settings coeffs c (6 - b) b least
  unfolding least_from
  run_ends h = let e : 6 - b ≡ 0 = omega arith in rw e

-- the first block of a run, then the reuse blocks
pub run-begins : (settings : Settings) (coeffs : List Float) (c b : ℕ) (first least : List ℕ) → first ≡ exponents_of (below_end settings b c coeffs)
    → least ≡ least_from settings coeffs c (6 - (b + 1)) (b + 1) first → least ≡ run_least settings coeffs b c
unfolding run_least
run-begins settings coeffs c b first least e q =
    let k : 6 - (b + 1) ≡ 5 - b = omega arith in
    rw (← e, ← add-one b, ← k) q
