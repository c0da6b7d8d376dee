-- What the writer's code reads are the coded exponents, and its groups are those of the definition.
use mathlib.Core.Path.{◌≡◌, refl, sym, ◌∙◌}
use mathlib.Core.List.{List, [], ◌∷◌, ◌++◌}
use Prim.Native.Nat.{ℕ, zero, suc, ◌+◌, ◌-◌, ◌*◌, ◌≤◌, ◌<◌}
use native.Mathlib.Nat.{suc-mul}
use native.Mathlib.Omega.{arith}
use lib.ListN.{length, take, get_or}
use lib.Seq.{get_or-take, length-take-le}
use Rattle.bits.specs.Field.{field}
use Rattle.bits.specs.Parts.{joined}
use Rattle.shaping.specs.Greatest.{Shaped}
use Rattle.exponents.specs.Groups.{delta, group, group_count, coded_at, delta_at, group_at, group_bits, exponent_bits}
use Rattle.exponents.specs.Inner.{Near, difference_at}
use Rattle.exponents.specs.GroupsLaws.{coded-near, coded-past}
use native.Mathlib.Decide.{dec_lt}
use borrow.Author.Tests.{lt-ltb, le-ltb}
use Rattle.exponents.specs.ReadingLaws.{before-coded}

entry-there : (l : List ℕ) (i d e : ℕ) → i < length l → get_or l i d ≡ get_or l i e
entry-there [] i d e h = absurd (omega arith)
entry-there (x ∷ r) zero d e h = refl
entry-there (x ∷ r) (suc i) d e h = entry-there r i d e (omega arith)

-- an entry below end, whatever stands for one from end on
pub entry-taken : (exp : List ℕ) (end p d : ℕ) → p < end → end ≤ length exp → get_or exp p 0 ≡ get_or (take end exp) p d
entry-taken exp end p d h l = sym (get_or-take end exp p d h ∙ entry-there exp p d 0 (omega arith))

-- the bin p, where span s begins, and the bin before it
module _ (span : ℕ) (exps : List ℕ) (w : 0 < span) (f : Shaped (span - 1) exps) (s p : ℕ) (at : p ≡ 1 + s * span) where
  before-is : p < length exps → get_or exps (p - 1) 0 ≡ coded_at span exps s
  before-is l = rw at (before-coded span exps w f s (rw at at l))

  bin-is : p < length exps → get_or exps p 0 ≡ coded_at span exps (suc s)
  unfolding coded_at
  bin-is l = entry-there exps p 0 (coded_at span exps s) l ∙ rw at

  -- a bin may follow the one before it
  pub near-at : p < length exps → Near (get_or exps (p - 1) 0) (get_or exps p 0)
  near-at l = rw (before-is l, bin-is l) (coded-near span exps w f s)

  -- and the difference of the code is the one coded
  pub difference-is : difference_at exps p ≡ delta_at span exps s
  difference-is = go (dec_lt p (length exps))
    where
      go : Dec (p < length exps) → difference_at exps p ≡ delta_at span exps s
      go (yes l) = rw (lt-ltb p (length exps) l, before-is l, bin-is l)
      go (no l) =
          let e : coded_at span exps (suc s) ≡ coded_at span exps s = coded-past span exps s (omega (arith, l)) in
          rw (le-ltb p (length exps) (omega (arith, l)), e) (omega arith)

-- the group number i, as the code makes it
module _ (span end : ℕ) (exp : List ℕ) (i : ℕ) (w : 0 < span) (f : Shaped (span - 1) (take end exp)) (l : end ≤ length exp) where
  second_at : 1 + 3 * i * span + span ≡ 1 + suc (3 * i) * span
  second_at = omega (arith, suc-mul (3 * i) span)

  third_at : 1 + 3 * i * span + 2 * span ≡ 1 + suc (suc (3 * i)) * span
  third_at = omega (arith, suc-mul (3 * i) span, suc-mul (suc (3 * i)) span)

  pub first-near : 1 + 3 * i * span < length (take end exp) → Near (get_or (take end exp) (1 + 3 * i * span - 1) 0) (get_or (take end exp) (1 + 3 * i * span) 0)
  first-near = near-at span (take end exp) w f (3 * i) (1 + 3 * i * span) refl

  pub second-near : 1 + 3 * i * span + span < length (take end exp) → Near (get_or (take end exp) (1 + 3 * i * span + span - 1) 0) (get_or (take end exp) (1 + 3 * i * span + span) 0)
  second-near = near-at span (take end exp) w f (suc (3 * i)) (1 + 3 * i * span + span) second_at

  pub third-near : 1 + 3 * i * span + 2 * span < length (take end exp) → Near (get_or (take end exp) (1 + 3 * i * span + 2 * span - 1) 0) (get_or (take end exp) (1 + 3 * i * span + 2 * span) 0)
  third-near = near-at span (take end exp) w f (suc (suc (3 * i))) (1 + 3 * i * span + 2 * span) third_at

  -- span by span
  pub group-is : 25 * difference_at (take end exp) (1 + 3 * i * span) + 5 * difference_at (take end exp) (1 + 3 * i * span + span) + difference_at (take end exp) (1 + 3 * i * span + 2 * span)
      ≡ group_at span (take end exp) (3 * i)
  unfolding group_at
  group-is =
      let one = difference-is span (take end exp) w f (3 * i) (1 + 3 * i * span) refl in
      let two = difference-is span (take end exp) w f (suc (3 * i)) (1 + 3 * i * span + span) second_at in
      let three = difference-is span (take end exp) w f (suc (suc (3 * i))) (1 + 3 * i * span + 2 * span) third_at in
      cc

  -- no pads: every span begins below end
  module _ (t : 1 + 3 * i * span + 2 * span < end) where
    entry-is : (p : ℕ) → p < end → get_or exp p 0 ≡ get_or (take end exp) p 0
    entry-is p u = entry-taken exp end p 0 u l

    coded-is : (s p : ℕ) → p ≡ 1 + s * span → p < end → get_or exp p 0 ≡ coded_at span (take end exp) (suc s)
    coded-is s p at u = entry-is p u ∙ bin-is span (take end exp) w f s p at (rw (length-take-le end exp l) u)

    first-before : get_or exp (1 + 3 * i * span - 1) 0 ≡ coded_at span (take end exp) (3 * i)
    first-before =
        entry-is (1 + 3 * i * span - 1) (omega (arith, t))
        ∙ before-is span (take end exp) w f (3 * i) (1 + 3 * i * span) refl (rw (length-take-le end exp l) (omega (arith, t)))

    whole-first : get_or exp (1 + 3 * i * span) 0 ≡ coded_at span (take end exp) (suc (3 * i))
    whole-first = coded-is (3 * i) (1 + 3 * i * span) refl (omega (arith, t))

    whole-second : get_or exp (1 + 3 * i * span + span) 0 ≡ coded_at span (take end exp) (suc (suc (3 * i)))
    whole-second = coded-is (suc (3 * i)) (1 + 3 * i * span + span) second_at (omega (arith, t))

    whole-third : get_or exp (1 + 3 * i * span + 2 * span) 0 ≡ coded_at span (take end exp) (suc (suc (suc (3 * i))))
    whole-third = coded-is (suc (suc (3 * i))) (1 + 3 * i * span + 2 * span) third_at t

    pub whole-near : Near (get_or exp (1 + 3 * i * span - 1) 0) (get_or exp (1 + 3 * i * span) 0)
        × Near (get_or exp (1 + 3 * i * span) 0) (get_or exp (1 + 3 * i * span + span) 0)
        × Near (get_or exp (1 + 3 * i * span + span) 0) (get_or exp (1 + 3 * i * span + 2 * span) 0)
    whole-near =
        let near = coded-near span (take end exp) w f in
        rw (first-before, whole-first, whole-second, whole-third) (near (3 * i), near (suc (3 * i)), near (suc (suc (3 * i))))

    pub whole_is : group (delta (get_or exp (1 + 3 * i * span - 1) 0) (get_or exp (1 + 3 * i * span) 0))
        (delta (get_or exp (1 + 3 * i * span) 0) (get_or exp (1 + 3 * i * span + span) 0))
        (delta (get_or exp (1 + 3 * i * span + span) 0) (get_or exp (1 + 3 * i * span + 2 * span) 0))
        ≡ group_at span (take end exp) (3 * i)
    unfolding group_at
    whole_is = rw (first-before, whole-first, whole-second, whole-third)

-- the bits of the exponents below end
pub set-bits : (span end : ℕ) (exp : List ℕ) → 0 < end → end ≤ length exp
    → exponent_bits span (take end exp) ≡ field 4 (get_or exp 0 0) ++ joined (group_count end span) (group_bits span (take end exp))
unfolding exponent_bits
set-bits span end exp w l = rw (get_or-take end exp 0 0 w, length-take-le end exp l)
