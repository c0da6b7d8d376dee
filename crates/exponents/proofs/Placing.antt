-- What the reader's code stores for one difference and for a group of three is what the definition adds.
use mathlib.Core.Path.{◌≡◌, ap, ◌∙◌}
use mathlib.Core.List.{List, ◌++◌}
use Rattle.std.specs.Prelude.{Option, None, Some}
use Prim.Native.Nat.{ℕ, ◌+◌, ◌-◌, ◌/◌, ◌%◌, ◌≤◌, ◌<◌, min}
use native.Mathlib.Omega.{arith}
use lib.ListN.{length, take, drop, get_or, replicate, length-take, length-drop, length-replicate}
use lib.Seq.{length-take-le}
use borrow.Author.Tests.{le-leb, lt-leb}
use Rattle.bits.specs.PartsLaws.{placed-front, placed}
use Rattle.exponents.specs.Reading.{last, with_span, with_group}
use Rattle.exponents.specs.ReadingLaws.{last_taken, span-pad, span-good, span_below, span-above}

-- ---- one difference

pub place-pad : (l : List ℕ) (p g d : ℕ) → p ≡ length l → 0 < p → with_span (length l) g d (take p l) ≡ Some (take p l)
place-pad l p g d e w = span-pad (length l) g d (take p l) (rw length-take (omega arith))

module _ (l : List ℕ) (p g d : ℕ) (w : 0 < p) (h : p < length l) where
  last-is : last (take p l) ≡ get_or l (p - 1) 0
  last-is = last_taken p l w (omega arith)

  fewer : length (take p l) < length l
  fewer = rw (length-take-le p l (omega arith)) h

  pub place-below : get_or l (p - 1) 0 + d < 2 → with_span (length l) g d (take p l) ≡ None
  place-below b = span_below (length l) g d (take p l) fewer (omega (arith, last-is))

  pub place-above : 26 < get_or l (p - 1) 0 + d → with_span (length l) g d (take p l) ≡ None
  place-above b = span-above (length l) g d (take p l) fewer (omega (arith, last-is))

  pub place-good : (to v : ℕ) (ys : List ℕ) → ys ≡ replicate (length (take (to - p) (drop p l))) v → to ≡ p + min g (length l - p)
      → v ≡ get_or l (p - 1) 0 + d - 2 → 2 ≤ get_or l (p - 1) 0 + d → get_or l (p - 1) 0 + d ≤ 26
      → with_span (length l) g d (take p l) ≡ Some (take to (placed p (to - p) l ys))
  place-good to v ys e t q b u =
      let n : length (take p l) ≡ p = length-take-le p l (omega arith) in
      let k : length (take (to - p) (drop p l)) ≡ to - p = rw (length-take, length-drop) (omega arith) in
      let y : length ys ≡ to - p = ap length e ∙ length-replicate (length (take (to - p) (drop p l))) v ∙ k in
      let s : p + (to - p) ≡ to = omega arith in
      let front : take to (placed p (to - p) l ys) ≡ take p l ++ ys = rw s at (placed-front l ys p (to - p) (omega arith) y) in
      let m : min g (length l - length (take p l)) ≡ to - p = omega arith in
      let z : last (take p l) + d - 2 ≡ v = omega (arith, last-is) in
      span-good (length l) g d (take p l) fewer (omega (arith, last-is)) (omega (arith, last-is))
      ∙ ap Some (rw (m, z, front, e, k))

-- ---- a group

module _ (n g v : ℕ) (x : List ℕ) where
  pub group-above : 124 < v → with_group n g v x ≡ None
  unfolding with_group
  group-above h = rw (lt-leb v 124 h)

  pub group-first : v ≤ 124 → with_span n g (v / 25) x ≡ None → with_group n g v x ≡ None
  unfolding with_group
  group-first h e = rw (le-leb v 124 h, e)

  pub group-second : (y : List ℕ) → v ≤ 124 → with_span n g (v / 25) x ≡ Some y → with_span n g (v % 25 / 5) y ≡ None → with_group n g v x ≡ None
  unfolding with_group
  group-second y h e q = rw (le-leb v 124 h, e, q)

  pub group-third : (y z : List ℕ) (o : Option (List ℕ)) → v ≤ 124 → with_span n g (v / 25) x ≡ Some y → with_span n g (v % 25 / 5) y ≡ Some z → with_span n g (v % 5) z ≡ o
      → with_group n g v x ≡ o
  unfolding with_group
  group-third y z o h e q r = rw (le-leb v 124 h, e, q) r
