-- Laws of exponent sets: how many groups and bits there are, and what the coded exponents of a shaped set are.
use Rattle.std.specs.Prelude.{◌≡◌, true, length, take, drop, replicate}
use Rattle.std.proofs.Common.{ap, zero-mul, length-append, drop_of_length-le, drop-drop}
use mathlib.Core.List.{List, [], ◌∷◌}
use Prim.Native.Nat.{ℕ, zero, suc, ◌+◌, ◌-◌, ◌*◌, ◌/◌, ◌%◌, ◌≤◌, ◌<◌}
use Rattle.std.proofs.Math.Nat.{suc-mul}
use Rattle.std.proofs.Math.Decide.{dec_lt}
use native.Mathlib.Omega.{arith}
use Rattle.std.proofs.Math.ListN.{get_or, get_or-eq_default}
use Rattle.std.proofs.Math.Seq.{drop-cons}
use Rattle.bits.specs.FieldLaws.{length-field}
use Rattle.bits.specs.PartsLaws.{joined_length}
use Rattle.shaping.specs.GroupsLaws.{by_span, groups-are}
use Rattle.shaping.specs.Passes.{is_span}
use Rattle.shaping.specs.Greatest.{Follows, Shaped}
use Rattle.sheet.specs.Ranges.{legal_end}
use Rattle.sheet.specs.RangesLaws.{end-bounds}
use Rattle.exponents.specs.Groups.{span_count, group_count, coded_at, delta_at, group_at, group_bits, exponent_bits}
use Rattle.exponents.specs.Inner.{Near}
use Rattle.exponents.specs.ShapedLaws.{first-low, follows-run}

-- ---- how many groups

-- a third of the spans coded after the absolute value, rounded up
pub count-thirds : (end span : ℕ) → legal_end end ≡ true → is_span span ≡ true → group_count end span ≡ (span_count end span + 2) / 3
unfolding group_count
count-thirds end span e s = groups-are end span (end-bounds end e).thirds s

-- the groups reach to end, and there are at most 84
pub count-reaches : (end span : ℕ) → legal_end end ≡ true → is_span span ≡ true → (end ≤ 1 + 3 * group_count end span * span) × (group_count end span ≤ 84)
unfolding group_count
count-reaches end span e s =
    let n = end-bounds end e in
    by_span (λ span. (end ≤ 1 + 3 * group_count end span * span) × (group_count end span ≤ 84)) (omega arith) (omega arith) (omega arith) span s

-- each group has a span below end
pub count-inside : (end span g : ℕ) → legal_end end ≡ true → is_span span ≡ true → g < group_count end span → 1 + 3 * g * span < end
unfolding group_count
count-inside end span g e s h =
    let n = end-bounds end e in
    by_span (λ span. g < group_count end span → 1 + 3 * g * span < end) (λ h. omega arith) (λ h. omega arith) (λ h. omega arith) span s h

-- 4 bits, and 7 for each group
pub length-exponent_bits : (span : ℕ) (exps : List ℕ) → length (exponent_bits span exps) ≡ 4 + 7 * group_count (length exps) span
unfolding exponent_bits
length-exponent_bits span exps =
    rw (length-append, length-field)
    (ap (λ (n : ℕ). 4 + n) (joined_length 7 (group_bits span exps) (group_count (length exps) span) (λ g h. length-field 7 _)))

-- ---- the coded exponents of a shaped set

-- the span s of a set: its exponent may follow the one before it, and stands in all its bins
pub record Span (span : ℕ) (exps : List ℕ) (s : ℕ) : Type 0 where
  pub near : Near (coded_at span exps s) (coded_at span exps (suc s))
  pub run : take span (drop (1 + s * span) exps) ≡ replicate (length (take span (drop (1 + s * span) exps))) (coded_at span exps (suc s))

module _ (h : ℕ) (exps : List ℕ) where
  -- the span s, and what follows it
  span-at : (s : ℕ) → 1 + s * suc h < length exps → Follows h 0 (coded_at (suc h) exps s) (drop (1 + s * suc h) exps)
      → Span (suc h) exps s × Follows h 0 (coded_at (suc h) exps (suc s)) (drop (1 + suc s * suc h) exps)
  unfolding coded_at
  span-at s l f =
      let q = 1 + s * suc h in
      let p = coded_at (suc h) exps s in
      let d = drop-cons exps q p l in
      let g = rw d at f in
      let i = follows-run h h (get_or exps q p) (drop (suc q) exps) g.3 in
      let n : suc q + h ≡ 1 + suc s * suc h = omega (arith, suc-mul s (suc h)) in
      let r : Span (suc h) exps s = record { near = (g.0, g.1, g.2); run = rw d (ap (λ (l : List ℕ). get_or exps q p ∷ l) i.0) } in
      (r, rw (drop-drop h (suc q) exps, n) at i.1)

  first-follows : (xs : List ℕ) → Shaped h xs → Follows h 0 (coded_at (suc h) xs 0) (drop 1 xs)
  unfolding coded_at
  first-follows [] f = tt
  first-follows (x ∷ r) f = f.1

  span-follows : Shaped h exps → (s : ℕ) → Follows h 0 (coded_at (suc h) exps s) (drop (1 + s * suc h) exps)
  span-follows f zero = rw (zero-mul (suc h)) (first-follows exps f)
  span-follows f (suc s) = go (dec_lt (1 + s * suc h) (length exps)) (span-follows f s)
    where
      go : Dec (1 + s * suc h < length exps) → Follows h 0 (coded_at (suc h) exps s) (drop (1 + s * suc h) exps)
          → Follows h 0 (coded_at (suc h) exps (suc s)) (drop (1 + suc s * suc h) exps)
      go (yes l) f = (span-at s l f).1
      go (no l) f = rw (drop_of_length-le exps {i = 1 + suc s * suc h} (omega (arith, l, suc-mul s (suc h)))) tt

-- every span of a shaped set
pub shaped-span : (span : ℕ) (exps : List ℕ) (s : ℕ) → 0 < span → Shaped (span - 1) exps → 1 + s * span < length exps → Span span exps s
shaped-span zero exps s w f l = absurd (omega arith)
shaped-span (suc h) exps s w f l =
    let e : suc h - 1 ≡ h = omega arith in
    (span-at h exps s l (span-follows h exps (rw e at f) s)).0

-- past the last span the same exponent again
pub coded-past : (span : ℕ) (exps : List ℕ) (s : ℕ) → length exps ≤ 1 + s * span → coded_at span exps (suc s) ≡ coded_at span exps s
unfolding coded_at
coded-past span exps s l = get_or-eq_default exps (coded_at span exps s) l

module _ (span : ℕ) (exps : List ℕ) (w : 0 < span) (f : Shaped (span - 1) exps) where
  near_step : (s : ℕ) → coded_at span exps s ≤ 24 → Near (coded_at span exps s) (coded_at span exps (suc s))
  near_step s b = go (dec_lt (1 + s * span) (length exps))
    where
      go : Dec (1 + s * span < length exps) → Near (coded_at span exps s) (coded_at span exps (suc s))
      go (yes l) = (shaped-span span exps s w f l).near
      go (no l) =
          let e : coded_at span exps (suc s) ≡ coded_at span exps s = coded-past span exps s (omega (arith, l)) in
          (omega arith, omega arith, omega arith)

  pub coded-low : (s : ℕ) → coded_at span exps s ≤ 24
  unfolding coded_at
  coded-low zero = omega (arith, first-low (span - 1) exps f)
  coded-low (suc s) = (near_step s (coded-low s)).2

  -- each coded exponent may follow the one before it
  pub coded-near : (s : ℕ) → Near (coded_at span exps s) (coded_at span exps (suc s))
  coded-near s = near_step s (coded-low s)

  -- so a group is at most 124, and its differences are read off it again
  pub group-parts : (s : ℕ) →
      (group_at span exps s ≤ 124)
      × (group_at span exps s / 25 ≡ delta_at span exps s)
      × (group_at span exps s % 25 / 5 ≡ delta_at span exps (suc s))
      × (group_at span exps s % 5 ≡ delta_at span exps (suc (suc s)))
  unfolding group_at
  group-parts s =
      let a = coded-near s in
      let b = coded-near (suc s) in
      let d = coded-near (suc (suc s)) in
      (omega arith, omega arith, omega arith, omega arith)
