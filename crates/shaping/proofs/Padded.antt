-- Exponents among bins that set no limit: their entries, and how the code's buffers come to hold them.
use mathlib.Core.Path.{◌≡◌, refl, sym, ap, ◌∙◌}
use mathlib.Core.List.{List, ◌∷◌, ◌++◌}
use Prim.Native.Nat.{ℕ, zero, suc, ◌+◌, ◌-◌, ◌≤◌, ◌<◌}
use native.Mathlib.Omega.{arith}
use native.Mathlib.Numerals.{unary_clauses}
use native.Mathlib.Decide.{dec_lt}
use lib.ListN.{length, take, drop, get_or, length-append, length-drop, length-replicate, get_or-replicate, get_or-append, get_or-eq_default}
use lib.Seq.{get_or-append-add, take-append-add, length-take-le, take-length}
use Rattle.bits.specs.Parts.{tab}
use Rattle.bits.specs.PartsLaws.{placed, tab-list, tab-cong}
use Rattle.shaping.specs.Reach.{free, padded}

length-free : (k : ℕ) → length (free k) ≡ k
length-free k = length-replicate k _

pub padded-inside : (k : ℕ) (xs : List ℕ) (i : ℕ) → i < length xs → get_or (padded k xs) (k + i) 0 ≡ get_or xs i 0
unfolding padded
padded-inside k xs i h =
    let e : get_or (free k ++ (xs ++ free k)) (length (free k) + i) 0 ≡ get_or (xs ++ free k) i 0 = get_or-append-add (free k) (xs ++ free k) i 0 in
    (rw (length-free k) at e) ∙ get_or-append xs (free k) 0 i h

pub padded-before : (k : ℕ) (xs : List ℕ) (t : ℕ) → t < k → get_or (padded k xs) t 0 ≡ 24
unfolding padded
padded-before k xs t h =
    get_or-append (free k) (xs ++ free k) 0 t (rw (length-free k) h) ∙ get_or-replicate k t 24 0 h

pub padded-behind : (k : ℕ) (xs : List ℕ) (i : ℕ) → i < k → get_or (padded k xs) (k + (length xs + i)) 0 ≡ 24
unfolding padded
padded-behind k xs i h =
    let e : get_or (free k ++ (xs ++ free k)) (length (free k) + (length xs + i)) 0 ≡ get_or (xs ++ free k) (length xs + i) 0 = get_or-append-add (free k) (xs ++ free k) (length xs + i) 0 in
    (rw (length-free k) at e) ∙ (get_or-append-add xs (free k) i 0 ∙ get_or-replicate k i 24 0 h)

pub length-padded : (k : ℕ) (xs : List ℕ) → length (padded k xs) ≡ k + (length xs + k)
unfolding padded
length-padded k xs = rw (length-append, length-append, length-free k) refl

free-take : (k m : ℕ) → k ≤ m → take k (free m) ≡ free k
free-take zero m h = refl
free-take (suc k) zero h = absurd (omega arith)
free-take (suc k) (suc m) h = ap (λ (l : List ℕ). 24 ∷ l) (free-take k m (omega arith))

free-drop : (k m : ℕ) → drop k (free m) ≡ free (m - k)
free-drop zero m = simp unary_clauses refl
free-drop (suc k) zero =
    let e : 0 - suc k ≡ 0 = omega arith in
    rw e refl
free-drop (suc k) (suc m) = simp unary_clauses (free-drop k m)

-- a part of w bins that is written into bins that set no limit
pub placed-padded : (k w s m : ℕ) (l ys zs : List ℕ) → l ≡ free m → ys ≡ zs → length zs ≡ w → s ≡ k + (w + k) → s ≤ m
    → take s (placed k w l ys) ≡ padded k zs
unfolding padded
placed-padded k w s m l ys zs e f n q h =
    let a : s ≡ length (free k) + (length zs + k) = rw (length-free k) (omega arith) in
    rw (
      e,
      f,
      free-take k m (omega arith),
      free-drop k m,
      free-drop w (m - k),
      a,
      take-append-add (free k) (zs ++ free (m - k - w)) (length zs + k),
      take-append-add zs (free (m - k - w)) k,
      free-take k (m - k - w) (omega arith),
    )

pub padded-most : (k : ℕ) (xs : List ℕ) → ((i : ℕ) → get_or xs i 0 ≤ 24) → (t : ℕ) → get_or (padded k xs) t 0 ≤ 24
padded-most k xs m t = go (dec_lt t k) (dec_lt (t - k) (length xs)) (dec_lt (t - k - length xs) k)
  where
    go : Dec (t < k) → Dec (t - k < length xs) → Dec (t - k - length xs < k) → get_or (padded k xs) t 0 ≤ 24
    go (yes a) b c = omega (arith, padded-before k xs t a)
    go (no a) (yes b) c =
        let e : k + (t - k) ≡ t = omega (arith, a) in
        omega (arith, m (t - k), rw e at (padded-inside k xs (t - k) b))
    go (no a) (no b) (yes c) =
        let e : k + (length xs + (t - k - length xs)) ≡ t = omega (arith, a, b) in
        omega (arith, rw e at (padded-behind k xs (t - k - length xs) c))
    go (no a) (no b) (no c) = omega (arith, get_or-eq_default (padded k xs) 0 {n = t} (omega (arith, a, b, c, length-padded k xs)))

-- what a loop leaves in the w entries from a on, by their number
pub part-tab : (a w n : ℕ) (l ys : List ℕ) (f : ℕ → ℕ) → a + w ≤ length l → w ≡ n → ys ≡ tab (length (take w (drop a l))) f → ys ≡ tab n f
part-tab a w n l ys f h e q = rw (length-take-le w (drop a l) (rw length-drop (omega arith)), e) at q

-- a list is known by its entries
pub tabbed : (f : ℕ → ℕ) (l : List ℕ) (n : ℕ) → length l ≡ n → ((i : ℕ) → i < n → get_or l i 0 ≡ f i) → l ≡ tab n f
tabbed f l n e h =
    sym (take-length l) ∙ ap (λ (m : ℕ). take m l) e ∙ sym (tab-list 0 l n (omega arith)) ∙ tab-cong (λ i. get_or l i 0) f n h
