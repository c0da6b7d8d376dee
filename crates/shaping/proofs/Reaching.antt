-- What each bin allows those around it: the two steps of specs/Reach leave what `limited` leaves.
use mathlib.Core.Path.{◌≡◌, refl, sym, ◌∙◌}
use mathlib.Core.List.{List, [], ◌∷◌}
use Prim.Native.Nat.{ℕ, zero, suc, ◌+◌, ◌-◌, ◌*◌, ◌≤◌, ◌<◌, min}
use native.Mathlib.Omega.{arith}
use native.Mathlib.Nat.{add-zero, zero-add, suc-add}
use native.Mathlib.Decide.{dec_lt}
use lib.ListN.{length, take, get_or, get_or-eq_default}
use Rattle.bits.specs.Parts.{tab}
use Rattle.bits.specs.PartsLaws.{length-tab, get_or-tab}
use Rattle.shaping.specs.Greatest.{Below, Greatest, Follows, ShapedFrom}
use Rattle.shaping.specs.GreatestLaws.{below_at, at-below, below_both}
use Rattle.shaping.specs.D15.{limited}
use Rattle.shaping.specs.PassLaws.{limited-greatest}
use Rattle.shaping.proofs.ShapedLaws.{from-at-most}
use Rattle.shaping.proofs.Padded.{padded-inside, padded-before, padded-behind, length-padded, padded-most}
use Rattle.shaping.specs.Reach.{topped_at, topped, padded, near_least, far_least, nearest, farthest}

-- how far apart two bins are
abbrev dist : ℕ → ℕ → ℕ
dist i j = (i - j) + (j - i)

-- ---- shaped for D15, bin by bin

-- neighbours are within 2, so bins d apart within 2 * d
follows-within : (p : ℕ) (xs : List ℕ) → Follows 0 0 p xs → (i : ℕ) → i < length xs → (get_or xs i 0 ≤ p + 2 * suc i) × (p ≤ get_or xs i 0 + 2 * suc i)
follows-within p [] s i h = absurd (omega arith)
follows-within p (x ∷ r) s zero h = (omega arith, omega arith)
follows-within p (x ∷ r) s (suc i) h =
    let w = follows-within x r s.3 i (omega arith) in
    (omega arith, omega arith)

pair-within : (p : ℕ) (xs : List ℕ) → Follows 0 0 p xs → (i d : ℕ) → i + d < length xs
    → (get_or xs (i + d) 0 ≤ get_or xs i 0 + 2 * d) × (get_or xs i 0 ≤ get_or xs (i + d) 0 + 2 * d)
pair-within p xs s i zero h =
    let e : get_or xs (i + 0) 0 ≡ get_or xs i 0 = rw add-zero refl in
    (omega arith, omega arith)
pair-within p [] s i (suc d) h = absurd (omega arith)
pair-within p (x ∷ r) s zero (suc d) h =
    let e : get_or (x ∷ r) (0 + suc d) 0 ≡ get_or r d 0 = rw zero-add refl in
    let w = follows-within x r s.3 d (omega arith) in
    (omega arith, omega arith)
pair-within p (x ∷ r) s (suc i) (suc d) h = rw suc-add (pair-within x r s.3 i (suc d) (omega arith))

shaped-within : (limit : ℕ) (xs : List ℕ) → limit ≤ 24 → ShapedFrom limit 0 0 xs → (i j : ℕ) → i < length xs → j < length xs → get_or xs i 0 ≤ get_or xs j 0 + 2 * dist i j
shaped-within limit [] b s i j h k = absurd (omega arith)
shaped-within limit (x ∷ r) b s i j h k = go (dec_lt i j)
  where
    all : Follows 0 0 x (x ∷ r)
    all = (omega arith, omega arith, omega (arith, b, s.0), s.1)

    go : Dec (i < j) → get_or (x ∷ r) i 0 ≤ get_or (x ∷ r) j 0 + 2 * dist i j
    go (yes l) =
        let e : i + (j - i) ≡ j = omega (arith, l) in
        omega (arith, l, rw e at (pair-within x (x ∷ r) all i (j - i) (omega (arith, l, k))).1)
    go (no l) =
        let e : j + (i - j) ≡ i = omega (arith, l) in
        omega (arith, l, rw e at (pair-within x (x ∷ r) all j (i - j) (omega (arith, l, h))).0)

-- and the other way round
steps-follow : (p : ℕ) (xs : List ℕ) → (0 < length xs → (get_or xs 0 0 ≤ p + 2) × (p ≤ get_or xs 0 0 + 2)) → ((i : ℕ) → get_or xs i 0 ≤ 24)
    → ((i : ℕ) → suc i < length xs → (get_or xs (suc i) 0 ≤ get_or xs i 0 + 2) × (get_or xs i 0 ≤ get_or xs (suc i) 0 + 2)) → Follows 0 0 p xs
steps-follow p [] a m f = tt
steps-follow p (x ∷ r) a m f =
    ((a (omega arith)).0, (a (omega arith)).1, m 0, steps-follow x r (λ h. f 0 (omega arith)) (λ i. m (suc i)) (λ i h. f (suc i) (omega arith)))

steps-shaped : (limit : ℕ) (xs : List ℕ) → get_or xs 0 0 ≤ limit → ((i : ℕ) → get_or xs i 0 ≤ 24)
    → ((i : ℕ) → suc i < length xs → (get_or xs (suc i) 0 ≤ get_or xs i 0 + 2) × (get_or xs i 0 ≤ get_or xs (suc i) 0 + 2)) → ShapedFrom limit 0 0 xs
steps-shaped limit [] a m f = tt
steps-shaped limit (x ∷ r) a m f = (a, steps-follow x r (λ h. f 0 (omega arith)) (λ i. m (suc i)) (λ i h. f (suc i) (omega arith)))

-- ---- lists under the limits

-- g holds nowhere more than ys, at most 24, and keeps the rule for neighbours
record Under (g ys : List ℕ) : Type 0 where
  same : length g ≡ length ys
  most : (i : ℕ) → get_or g i 0 ≤ 24
  within : (i j : ℕ) → i < length ys → j < length ys → get_or g i 0 ≤ get_or g j 0 + 2 * dist i j
  below : (i : ℕ) → i < length ys → get_or g i 0 ≤ get_or ys i 0

-- then it keeps to what any bin allows any other, pads included
under_all : (g ys : List ℕ) (k i t : ℕ) → Under g ys → i < length ys → t < length ys + 2 * k
    → get_or g i 0 ≤ get_or (padded k ys) t 0 + 2 * dist (k + i) t
under_all g ys k i t u h l = go (dec_lt t k) (dec_lt (t - k) (length ys))
  where
    go : Dec (t < k) → Dec (t - k < length ys) → get_or g i 0 ≤ get_or (padded k ys) t 0 + 2 * dist (k + i) t
    go (yes a) b = omega (arith, u.most i, padded-before k ys t a)
    go (no a) (yes b) =
        let e : k + (t - k) ≡ t = omega (arith, a) in
        omega (arith, a, u.within i (t - k) h b, u.below (t - k) b, rw e at (padded-inside k ys (t - k) b))
    go (no a) (no b) =
        let e : k + (length ys + (t - k - length ys)) ≡ t = omega (arith, a, b) in
        omega (arith, u.most i, rw e at (padded-behind k ys (t - k - length ys) (omega (arith, a, b, l))))

under_at : (g ys : List ℕ) (k i : ℕ) → Under g ys → i < length ys → (c : ℕ) → c ≤ 2 * k
    → get_or g i 0 ≤ get_or (padded k ys) (i + c) 0 + 2 * dist k c
under_at g ys k i u h c l = omega (arith, under_all g ys k i (i + c) u h (omega arith))

under_first : (g ys : List ℕ) (k i : ℕ) → Under g ys → i < length ys → 0 < k → get_or g i 0 ≤ get_or (padded k ys) i 0 + 2 * k
under_first g ys k i u h l = omega (arith, under_all g ys k i i u h (omega arith))

-- a number is under the least of several where it is under each
least : (v a b : ℕ) → v ≤ a → v ≤ b → v ≤ min a b
least v a b p q = omega arith

either : (v a b r : ℕ) → v ≤ a + r → v ≤ b + r → v ≤ min a b + r
either v a b r p q = omega arith

length-nearest : (ys : List ℕ) → length (nearest ys) ≡ length ys
unfolding nearest
length-nearest ys = length-tab (length ys) (near_least (padded 3 ys))

length-farthest : (ys : List ℕ) → length (farthest ys) ≡ length ys
unfolding farthest
length-farthest ys = length-tab (length ys) (far_least (padded 8 ys))

nearest-at : (ys : List ℕ) (i : ℕ) → i < length ys → get_or (nearest ys) i 0 ≡ near_least (padded 3 ys) i
unfolding nearest
nearest-at ys i h = get_or-tab (length ys) (near_least (padded 3 ys)) i h

farthest-at : (ys : List ℕ) (i : ℕ) → i < length ys → get_or (farthest ys) i 0 ≡ far_least (padded 8 ys) i
unfolding farthest
farthest-at ys i h = get_or-tab (length ys) (far_least (padded 8 ys)) i h

under-nearest : (g ys : List ℕ) → Under g ys → Under g (nearest ys)
under-nearest g ys u = record {
  same = u.same ∙ sym (length-nearest ys);
  most = u.most;
  within = λ i j h k. u.within i j (rw (length-nearest ys) at h) (rw (length-nearest ys) at k);
  below = λ i h. below_of i (rw (length-nearest ys) at h);
}
  where
    below_of : (i : ℕ) → i < length ys → get_or g i 0 ≤ get_or (nearest ys) i 0
    below_of i h =
        let a : (c : ℕ) → c ≤ 6 → get_or g i 0 ≤ get_or (padded 3 ys) (i + c) 0 + 2 * dist 3 c = under_at g ys 3 i u h in
        let own : get_or g i 0 ≤ get_or (padded 3 ys) (i + 3) 0 = omega (arith, a 3 (omega arith)) in
        rw (nearest-at ys i h)
        (least _ _ _ (least _ _ _ own (either _ _ _ 2 (a 2 (omega arith)) (a 4 (omega arith))))
        (least _ _ _ (either _ _ _ 4 (a 1 (omega arith)) (a 5 (omega arith))) (either _ _ _ 6 (under_first g ys 3 i u h (omega arith)) (a 6 (omega arith)))))

under-farthest : (g ys : List ℕ) → Under g ys → Under g (farthest ys)
under-farthest g ys u = record {
  same = u.same ∙ sym (length-farthest ys);
  most = u.most;
  within = λ i j h k. u.within i j (rw (length-farthest ys) at h) (rw (length-farthest ys) at k);
  below = λ i h. below_of i (rw (length-farthest ys) at h);
}
  where
    below_of : (i : ℕ) → i < length ys → get_or g i 0 ≤ get_or (farthest ys) i 0
    below_of i h =
        let a : (c : ℕ) → c ≤ 16 → get_or g i 0 ≤ get_or (padded 8 ys) (i + c) 0 + 2 * dist 8 c = under_at g ys 8 i u h in
        let own : get_or g i 0 ≤ get_or (padded 8 ys) (i + 8) 0 = omega (arith, a 8 (omega arith)) in
        rw (farthest-at ys i h)
        (least _ _ _ own
        (least _ _ _ (either _ _ _ 8 (a 4 (omega arith)) (a 12 (omega arith))) (either _ _ _ 16 (under_first g ys 8 i u h (omega arith)) (a 16 (omega arith)))))

-- ---- what a bin allows another is kept to

near-upto : (l : List ℕ) (i c : ℕ) → c ≤ 6 → near_least l i ≤ get_or l (i + c) 0 + 2 * dist 3 c
near-upto l i zero h = rw add-zero (omega arith)
near-upto l i (suc zero) h = omega arith
near-upto l i (suc (suc zero)) h = omega arith
near-upto l i (suc (suc (suc zero))) h = omega arith
near-upto l i (suc (suc (suc (suc zero)))) h = omega arith
near-upto l i (suc (suc (suc (suc (suc zero))))) h = omega arith
near-upto l i (suc (suc (suc (suc (suc (suc zero)))))) h = omega arith
near-upto l i (suc (suc (suc (suc (suc (suc (suc c))))))) h = absurd (omega arith)

far-upto : (l : List ℕ) (i m : ℕ) → m ≤ 4 → far_least l i ≤ get_or l (i + 4 * m) 0 + 2 * dist 8 (4 * m)
far-upto l i zero h = rw add-zero (omega arith)
far-upto l i (suc zero) h = omega arith
far-upto l i (suc (suc zero)) h = omega arith
far-upto l i (suc (suc (suc zero))) h = omega arith
far-upto l i (suc (suc (suc (suc zero)))) h = omega arith
far-upto l i (suc (suc (suc (suc (suc m))))) h = absurd (omega arith)

nearest-by : (ys : List ℕ) (i j : ℕ) → i < length ys → j < length ys → dist i j ≤ 3 → get_or (nearest ys) i 0 ≤ get_or ys j 0 + 2 * dist i j
nearest-by ys i j h k l =
    let e : i + (3 + j - i) ≡ 3 + j = omega arith in
    let t : get_or (padded 3 ys) (i + (3 + j - i)) 0 ≡ get_or ys j 0 = rw e (padded-inside 3 ys j k) in
    let d : dist 3 (3 + j - i) ≡ dist i j = omega arith in
    rw (nearest-at ys i h, ← t, ← d) (near-upto (padded 3 ys) i (3 + j - i) (omega arith))

farthest-by : (ys : List ℕ) (i c m : ℕ) → i < length ys → c < length ys → m ≤ 4 → 8 + c ≡ i + 4 * m
    → get_or (farthest ys) i 0 ≤ get_or ys c 0 + 2 * dist i c
farthest-by ys i c m h k l e =
    let t : get_or (padded 8 ys) (i + 4 * m) 0 ≡ get_or ys c 0 = rw (sym e) (padded-inside 8 ys c k) in
    let d : dist 8 (4 * m) ≡ dist i c = omega arith in
    rw (farthest-at ys i h, ← t, ← d) (far-upto (padded 8 ys) i m l)

-- the way down from bin i to bin j by way of bin c
by_way : (i j c : ℕ) → j ≤ c → c ≤ i → dist i c + dist c j ≤ dist i j
by_way i j c a b = omega arith

-- both steps, for bins any way apart
reach-by : (ys : List ℕ) (i j : ℕ) → ((k : ℕ) → get_or ys k 0 ≤ 24) → i < length ys → j < length ys
    → get_or (farthest (nearest ys)) i 0 ≤ get_or ys j 0 + 2 * dist i j
reach-by ys i j m h k = go (dec_lt (dist i j) 4) (dec_lt (dist i j) 8) (dec_lt (dist i j) 12) (dec_lt i j)
  where
    n : length (nearest ys) ≡ length ys
    n = length-nearest ys

    -- by way of bin c
    via : (c p : ℕ) → c < length ys → p ≤ 4 → 8 + c ≡ i + 4 * p → dist c j ≤ 3 → dist i c + dist c j ≤ dist i j
        → get_or (farthest (nearest ys)) i 0 ≤ get_or ys j 0 + 2 * dist i j
    via c p l q e d s =
        omega (arith, farthest-by (nearest ys) i c p (rw n h) (rw n l) q e, nearest-by ys c j l k d, s)

    go : Dec (dist i j < 4) → Dec (dist i j < 8) → Dec (dist i j < 12) → Dec (i < j) → get_or (farthest (nearest ys)) i 0 ≤ get_or ys j 0 + 2 * dist i j
    go (yes a) b c d = via i 2 h (omega arith) (omega arith) (omega (arith, a)) (omega arith)
    go (no a) (yes b) c (yes d) = via (i + 4) 3 (omega (arith, a, d, k)) (omega arith) (omega arith) (omega (arith, a, b, d)) (omega (arith, a, d))
    go (no a) (yes b) c (no d) = via (i - 4) 1 (omega (arith, h)) (omega arith) (omega (arith, a, d)) (omega (arith, a, b, d)) (by_way i j (i - 4) (omega (arith, a, d)) (omega arith))
    go (no a) (no b) (yes c) (yes d) = via (i + 8) 4 (omega (arith, b, d, k)) (omega arith) (omega arith) (omega (arith, b, c, d)) (omega (arith, b, d))
    go (no a) (no b) (yes c) (no d) = via (i - 8) 0 (omega (arith, h)) (omega arith) (omega (arith, b, d)) (omega (arith, b, c, d)) (by_way i j (i - 8) (omega (arith, b, d)) (omega arith))
    go (no a) (no b) (no c) d =
        omega (arith, c, m i, farthest-by (nearest ys) i i 2 (rw n h) (rw n h) (omega arith) (omega arith), nearest-by ys i i h h (omega arith))

-- ---- so the two steps are D15

topped-at : (limit : ℕ) (xs : List ℕ) (i : ℕ) → i < length xs → get_or (topped limit xs) i 0 ≡ topped_at limit xs i
unfolding topped
topped-at limit xs i h = get_or-tab (length xs) (topped_at limit xs) i h

pub length-topped : (limit : ℕ) (xs : List ℕ) → length (topped limit xs) ≡ length xs
unfolding topped
length-topped limit xs = length-tab (length xs) (topped_at limit xs)

topped-most : (limit : ℕ) (xs : List ℕ) (i : ℕ) → get_or (topped limit xs) i 0 ≤ 24
topped-most limit xs i = go (dec_lt i (length xs))
  where
    go : Dec (i < length xs) → get_or (topped limit xs) i 0 ≤ 24
    go (yes h) = omega (arith, topped-at limit xs i h)
    go (no h) = omega (arith, get_or-eq_default (topped limit xs) 0 {n = i} (rw (length-topped limit xs) (omega (arith, h))))

-- what D15 leaves is under the limits
limited-under : (limit : ℕ) (xs : List ℕ) → 15 ≤ limit → limit ≤ 24 → Under (limited limit xs) (topped limit xs)
limited-under limit xs low high = record {
  same = l ∙ sym (length-topped limit xs);
  most = from-at-most limit 0 0 (limited limit xs) high g.shaped;
  within = λ i j h k. shaped-within limit (limited limit xs) high g.shaped i j (omega (arith, l, length-topped limit xs, h)) (omega (arith, l, length-topped limit xs, k));
  below = λ i h. below_of i (rw (length-topped limit xs) at h);
}
  where
    g : Greatest limit 0 0 xs (limited limit xs)
    g = limited-greatest limit xs high

    l : length (limited limit xs) ≡ length xs
    l = (below_at (limited limit xs) xs g.below).0

    first-most : (zs : List ℕ) → ShapedFrom limit 0 0 zs → get_or zs 0 0 ≤ limit
    first-most [] s = omega arith
    first-most (z ∷ r) s = s.0

    below_of : (i : ℕ) → i < length xs → get_or (limited limit xs) i 0 ≤ get_or (topped limit xs) i 0
    below_of zero h = omega (arith, topped-at limit xs 0 h, (below_at (limited limit xs) xs g.below).1 0, high, first-most (limited limit xs) g.shaped)
    below_of (suc i) h = omega (arith, topped-at limit xs (suc i) h, (below_at (limited limit xs) xs g.below).1 (suc i), low, from-at-most limit 0 0 (limited limit xs) high g.shaped (suc i))

-- the most that a sequence with v in bin i must hold in the others
cone : ℕ → ℕ → ℕ → List ℕ
cone n v i = tab n (λ j. v - 2 * dist i j)

cone-at : (n v i j : ℕ) → j < n → get_or (cone n v i) j 0 ≡ v - 2 * dist i j
unfolding cone
cone-at n v i j h = get_or-tab n (λ j. v - 2 * dist i j) j h

length-cone : (n v i : ℕ) → length (cone n v i) ≡ n
unfolding cone
length-cone n v i = length-tab n (λ j. v - 2 * dist i j)

cone-past : (n v i j : ℕ) → n ≤ j → get_or (cone n v i) j 0 ≡ 0
cone-past n v i j h = get_or-eq_default (cone n v i) 0 {n = j} (rw (length-cone n v i) h)

next-dist : (i k : ℕ) → (dist i (suc k) ≤ dist i k + 1) × (dist i k ≤ dist i (suc k) + 1)
next-dist i k = (omega arith, omega arith)

lower_by : (v p q a b : ℕ) → a ≡ v - 2 * p → b ≡ v - 2 * q → q ≤ p + 1 → a ≤ b + 2
lower_by v p q a b e f h = omega arith

cone-shaped : (limit n v i : ℕ) → 0 < n → v ≤ 24 → v ≤ limit + 2 * dist i 0 → ShapedFrom limit 0 0 (cone n v i)
cone-shaped limit n v i h m f = steps-shaped limit (cone n v i) (omega (arith, cone-at n v i 0 h)) (λ k. most-of k (dec_lt k n)) step
  where
    most-of : (k : ℕ) → Dec (k < n) → get_or (cone n v i) k 0 ≤ 24
    most-of k (yes l) = omega (arith, cone-at n v i k l)
    most-of k (no l) = omega (arith, cone-past n v i k (omega (arith, l)))

    step : (k : ℕ) → suc k < length (cone n v i)
        → (get_or (cone n v i) (suc k) 0 ≤ get_or (cone n v i) k 0 + 2) × (get_or (cone n v i) k 0 ≤ get_or (cone n v i) (suc k) 0 + 2)
    step k l =
        let q : suc k < n = rw (length-cone n v i) at l in
        let a = cone-at n v i (suc k) q in
        let b = cone-at n v i k (omega (arith, q)) in
        (lower_by v _ _ _ _ a b (next-dist i k).1, lower_by v _ _ _ _ b a (next-dist i k).0)

-- so no list that keeps to what every bin allows is above what D15 leaves
under-limited : (limit : ℕ) (xs : List ℕ) (v i : ℕ) → limit ≤ 24 → i < length xs → v ≤ 24 → ((j : ℕ) → j < length xs → v ≤ get_or (topped limit xs) j 0 + 2 * dist i j) → v ≤ get_or (limited limit xs) i 0
under-limited limit xs v i high h m f =
    let g = limited-greatest limit xs high in
    let n = length xs in
    let s : ShapedFrom limit 0 0 (cone n v i) = cone-shaped limit n v i (omega (arith, h)) m (omega (arith, f 0 (omega (arith, h)), topped-at limit xs 0 (omega (arith, h)))) in
    let b : Below (cone n v i) xs = at-below (cone n v i) xs (length-cone n v i) (λ j. below_of j (dec_lt j (length xs))) in
    omega (arith, cone-at n v i i h, (below_at (cone n v i) (limited limit xs) (g.most (cone n v i) s b)).1 i)
  where
    below_of : (j : ℕ) → Dec (j < length xs) → get_or (cone (length xs) v i) j 0 ≤ get_or xs j 0
    below_of j (yes l) = omega (arith, f j l, topped-at limit xs j l, cone-at (length xs) v i j l)
    below_of j (no l) = omega (arith, cone-past (length xs) v i j (omega (arith, l)))

pub reached : (limit : ℕ) (xs : List ℕ) → 15 ≤ limit → limit ≤ 24 → farthest (nearest (topped limit xs)) ≡ limited limit xs
reached limit xs low high =
    below_both r (limited limit xs) (at-below r (limited limit xs) (n ∙ sym l) (λ i. lower i (dec_lt i (length xs)))) (at-below (limited limit xs) r (l ∙ sym n) (λ i. upper i (dec_lt i (length xs))))
  where
    r : List ℕ
    r = farthest (nearest (topped limit xs))

    n : length r ≡ length xs
    n = length-farthest (nearest (topped limit xs)) ∙ (length-nearest (topped limit xs) ∙ length-topped limit xs)

    u : Under (limited limit xs) r
    u = under-farthest (limited limit xs) (nearest (topped limit xs)) (under-nearest (limited limit xs) (topped limit xs) (limited-under limit xs low high))

    l : length (limited limit xs) ≡ length xs
    l = u.same ∙ n

    by : (i j : ℕ) → i < length xs → j < length xs → get_or r i 0 ≤ get_or (topped limit xs) j 0 + 2 * dist i j
    by i j h k = reach-by (topped limit xs) i j (topped-most limit xs) (rw (length-topped limit xs) h) (rw (length-topped limit xs) k)

    lower : (i : ℕ) → Dec (i < length xs) → get_or r i 0 ≤ get_or (limited limit xs) i 0
    lower i (yes h) = under-limited limit xs (get_or r i 0) i high h (omega (arith, by i i h h, topped-most limit xs i)) (λ j k. by i j h k)
    lower i (no h) = omega (arith, get_or-eq_default r 0 {n = i} (rw n (omega (arith, h))))

    upper : (i : ℕ) → Dec (i < length xs) → get_or (limited limit xs) i 0 ≤ get_or r i 0
    upper i (yes h) = u.below i (rw n h)
    upper i (no h) = omega (arith, get_or-eq_default (limited limit xs) 0 {n = i} (rw l (omega (arith, h))))

-- ---- the code's buffers

nearest-most : (ys : List ℕ) → ((k : ℕ) → get_or ys k 0 ≤ 24) → (i : ℕ) → get_or (nearest ys) i 0 ≤ 24
nearest-most ys m i = go (dec_lt i (length ys))
  where
    go : Dec (i < length ys) → get_or (nearest ys) i 0 ≤ 24
    go (yes h) = omega (arith, m i, nearest-by ys i i h h (omega arith))
    go (no h) = omega (arith, get_or-eq_default (nearest ys) 0 {n = i} (rw (length-nearest ys) (omega (arith, h))))

module _ (limit : ℕ) (low : 15 ≤ limit) (high : limit ≤ 24) (xs tops near : List ℕ) (a b : ℕ) (e : a ≡ 6 + length xs) (f : b ≡ 16 + length xs) (t : take (6 + length xs) tops ≡ padded 3 (topped limit xs)) where
  tops-part : take a tops ≡ padded 3 (topped limit xs)
  tops-part = rw e t

  tops-length : length (take a tops) ≡ 6 + length xs
  tops-length = rw (tops-part, length-padded 3 (topped limit xs), length-topped limit xs) (omega arith)

  pub tops-long : (6 ≤ length (take a tops)) × (length (take a tops) ≡ 6 + length xs)
  tops-long = (omega (arith, tops-length), tops-length)

  pub tops-most : (k : ℕ) → get_or (take a tops) k 0 ≤ 24
  tops-most k = rw tops-part (padded-most 3 (topped limit xs) (topped-most limit xs) k)

  module _ (q : take (10 + length (take a tops)) near ≡ padded 8 (tab (length (take a tops) - 6) (near_least (take a tops)))) where
    near-part : take b near ≡ padded 8 (nearest (topped limit xs))
    near-part =
        let g : 10 + length (take a tops) ≡ b = omega (arith, tops-length) in
        let h : length (take a tops) - 6 ≡ length (topped limit xs) = omega (arith, tops-length, length-topped limit xs) in
        (rw (g, h, tops-part) at q) ∙ near-is
      where
        near-is : padded 8 (tab (length (topped limit xs)) (near_least (padded 3 (topped limit xs)))) ≡ padded 8 (nearest (topped limit xs))
        near-is = unfold nearest in refl

    pub near-length : length (take b near) ≡ length xs + 16
    near-length = rw (near-part, length-padded 8 (nearest (topped limit xs)), length-nearest (topped limit xs), length-topped limit xs) (omega arith)

    pub near-most : (k : ℕ) → get_or (take b near) k 0 ≤ 24
    near-most k = rw near-part (padded-most 8 (nearest (topped limit xs)) (nearest-most (topped limit xs) (topped-most limit xs)) k)

    pub reached-all : (zs : List ℕ) → zs ≡ tab (length xs) (far_least (take b near)) → zs ≡ limited limit xs
    reached-all zs w = (rw (near-part, ← length-topped limit xs, ← length-nearest (topped limit xs)) at w) ∙ (far-is ∙ reached limit xs low high)
      where
        far-is : tab (length (nearest (topped limit xs))) (far_least (padded 8 (nearest (topped limit xs)))) ≡ farthest (nearest (topped limit xs))
        far-is = unfold farthest in refl
