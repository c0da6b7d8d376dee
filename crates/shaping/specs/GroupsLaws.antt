-- Laws of the groups: what a span is in numbers and as a strategy, and that the groups are a third of the spans coded, rounded up.
use Rattle.std.specs.Prelude.{◌≡◌, refl, true, ◌||◌, ◌⊎◌, ℕ, ◌+◌, ◌-◌, ◌/◌, ◌%◌, ◌≤◌, ◌<◌, eqb}
use Rattle.std.proofs.Common.{inl, inr, ⊎_elim, arith, eqb-true}
use Rattle.bits.specs.Tests.{either}
use Rattle.elements.specs.Strategy.{grpsize}
use Rattle.elements.specs.declared.strategy.Strategy.{Strategy}
use Rattle.elements.specs.declared.strategy.Strategy.TheVariants.{D15, D25, D45}
use Rattle.shaping.specs.Passes.{is_span}
use Rattle.shaping.specs.Groups.{groups, span_count}

pub span-is : (span : ℕ) → is_span span ≡ true → (span ≡ 1) ⊎ ((span ≡ 2) ⊎ (span ≡ 4))
span-is span h =
    ⊎_elim (λ e. inl (eqb-true span 1 e))
    (λ r. ⊎_elim (λ e. inr (inl (eqb-true span 2 e))) (λ e. inr (inr (eqb-true span 4 e))) (either (eqb span 2) (eqb span 4) r))
    (either (eqb span 1) (eqb span 2 || eqb span 4) h)

-- what holds of the three spans holds of each
pub by_span : (P : ℕ → Type 0) → P 1 → P 2 → P 4 → (span : ℕ) → is_span span ≡ true → P span
by_span P a b d span h = ⊎_elim (λ e. rw e a) (λ r. ⊎_elim (λ e. rw e b) (λ e. rw e d) r) (span-is span h)

-- a strategy's span, and the strategy of a number of bins
pub is_span-grpsize : (s : Strategy) → is_span (grpsize s) ≡ true
is_span-grpsize D15 = refl
is_span-grpsize D25 = refl
is_span-grpsize D45 = refl

pub span-bounds : (span : ℕ) → is_span span ≡ true → (0 < span) × (span ≤ 4)
span-bounds span h = by_span (λ s. (0 < s) × (s ≤ 4)) (omega arith, omega arith) (omega arith, omega arith) (omega arith, omega arith) span h

-- "g is a third of the spans coded after the 4 bits, rounded up" (document 01, "The frame body"): so wherever end - 1 is a multiple of 3,
-- as it is at the ends that a sheet may hold
pub groups-are : (end span : ℕ) → (end - 1) % 3 ≡ 0 → is_span span ≡ true → groups end span ≡ (span_count end span + 2) / 3
groups-are end span e s = by_span (λ span. groups end span ≡ (span_count end span + 2) / 3) (omega arith) (omega arith) (omega arith) span s
