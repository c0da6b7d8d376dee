-- Exponents shared by spans: how the code's values come to be the least of each span, and what a bin's value is.
use mathlib.Core.Path.{◌≡◌, refl, sym, ap, ◌∙◌}
use mathlib.Core.List.{List, [], ◌∷◌, ◌++◌, append-nil, append_assoc}
use Prim.Native.Nat.{ℕ, zero, suc, ◌+◌, ◌-◌, ◌*◌, ◌/◌, ◌≤◌, ◌<◌}
use native.Mathlib.Omega.{arith}
use native.Mathlib.Decide.{dec_lt}
use native.Mathlib.Nat.{zero-add, suc-add, zero-mul, suc-mul, div-eq_of_lt, div-eq-sub-div, div-lt_iff_lt-mul}
use native.Mathlib.Numerals.{add-one}
use lib.ListN.{length, take, drop, get_or, set, replicate, length-append, length-take, length-replicate, get_or-replicate, get_or-append, drop_of_length-le}
use lib.Seq.{drop-cons, drop-drop, get_or-drop, get_or-append-add, take-suc-set}
use Rattle.bits.specs.Parts.{tab}
use Rattle.bits.specs.PartsLaws.{tab-start, tab-list, tab-cong}
use Rattle.shaping.specs.D15.{limited}
use Rattle.shaping.specs.Spans.{least, leasts, span_leasts, copies, spread, shared, spanned}
use Rattle.shaping.specs.SpanLaws.{leasts-skip, length-copies}

-- ---- the least of each span

leasts-head : (h i : ℕ) (e : List ℕ) → i < length e → leasts h 0 (drop i e) ≡ least h (get_or e i 0) (drop (i + 1) e) ∷ leasts h 0 (drop (i + (h + 1)) e)
unfolding leasts
leasts-head h i e l =
    let q : i + (h + 1) ≡ suc i + h = omega arith in
    rw (drop-cons e i 0 l, add-one i, q, sym (drop-drop h (suc i) e)) (ap (λ (t : List ℕ). least h (get_or e i 0) (drop (suc i) e) ∷ t) (leasts-skip h h (drop (suc i) e)))

pub gather-start : (e to : List ℕ) (h k v : ℕ) → 0 < length e → 0 < length to → v ≡ least k (get_or e 0 0) (drop 1 e)
    → take 1 (set to 0 v) ++ leasts h 0 (drop (k + 1) e) ≡ span_leasts h k e
unfolding span_leasts
gather-start [] to h k v a b q = absurd (omega arith)
gather-start (x ∷ r) [] h k v a b q = absurd (omega arith)
gather-start (x ∷ r) (y ∷ to) h k v a b q = rw (add-one k, q) (ap (λ (t : List ℕ). least k x r ∷ t) (sym (leasts-skip h k r)))

pub gather-turn : (e to g : List ℕ) (h i c v : ℕ) → take c to ++ leasts h 0 (drop i e) ≡ g → i < length e → c < length to
    → v ≡ least h (get_or e i 0) (drop (i + 1) e) → take (c + 1) (set to c v) ++ leasts h 0 (drop (i + (h + 1)) e) ≡ g
gather-turn e to g h i c v q l m w =
    rw (add-one c, take-suc-set to c v m, append_assoc (take c to) (v ∷ []) (leasts h 0 (drop (i + (h + 1)) e)), w) (rw (leasts-head h i e l) at q)

pub gather-done : (e to g : List ℕ) (h i c : ℕ) → take c to ++ leasts h 0 (drop i e) ≡ g → length e ≤ i → take c to ≡ g
unfolding leasts
gather-done e to g h i c q l = sym (append-nil (take c to)) ∙ rw (drop_of_length-le e l) at q

-- there are as many as the bins need
leasts-long : (h j : ℕ) (t : List ℕ) → length t ≤ length (leasts h j t) * suc h + j
unfolding leasts
leasts-long h j [] = omega arith
leasts-long h zero (x ∷ t) = omega (arith, leasts-long h h t, suc-mul (length (leasts h h t)) (suc h))
leasts-long h (suc j) (x ∷ t) = omega (arith, leasts-long h j t)

pub values-long : (h k : ℕ) (e : List ℕ) → k ≤ h → 0 < length e → length e + (h - k) ≤ length (span_leasts h k e) * (h + 1)
unfolding span_leasts
values-long h k [] q l = absurd (omega arith)
values-long h k (x ∷ r) q l = rw (add-one h) (omega (arith, leasts-long h k r, q, suc-mul (length (leasts h k r)) (suc h)))

-- ---- what a bin's value is

copies_at : (g : ℕ) (vs : List ℕ) (i : ℕ) → 0 < g → get_or (copies g vs) i 0 ≡ get_or vs (i / g) 0
unfolding copies
copies_at g [] i p = refl
copies_at g (v ∷ vs) i p = go (dec_lt i g) (copies_at g vs (i - g) p)
  where
    go : Dec (i < g) → get_or (copies g vs) (i - g) 0 ≡ get_or vs ((i - g) / g) 0 → get_or (replicate g v ++ copies g vs) i 0 ≡ get_or (v ∷ vs) (i / g) 0
    go (yes l) r =
        rw (div-eq_of_lt l) (get_or-append (replicate g v) (copies g vs) 0 i (rw (length-replicate {A = ℕ} g v) l) ∙ get_or-replicate g i v 0 l)
    go (no l) r =
        let e : get_or (replicate g v ++ copies g vs) (g + (i - g)) 0 ≡ get_or (copies g vs) (i - g) 0 = rw (length-replicate {A = ℕ} g v) at (get_or-append-add (replicate g v) (copies g vs) (i - g) 0) in
        let f : g + (i - g) ≡ i = omega (arith, l) in
        let d : i / g ≡ suc ((i - g) / g) = div-eq-sub-div p (omega (arith, l)) ∙ add-one ((i - g) / g) in
        rw d ((rw f at e) ∙ r)

drop-run : (a b v : ℕ) (r : List ℕ) → drop a (replicate (a + b) v ++ r) ≡ replicate b v ++ r
drop-run zero b v r = rw (zero-add b)
drop-run (suc a) b v r = rw (suc-add a b) (drop-run a b v r)

spread_at : (h k i v : ℕ) (vs : List ℕ) → k ≤ h → get_or (replicate (suc k) v ++ copies (suc h) vs) i 0 ≡ get_or (v ∷ vs) ((i + (h - k)) / suc h) 0
unfolding copies
spread_at h k i v vs q =
    let e : h - k + suc k ≡ suc h = omega (arith, q) in
    let f : drop (h - k) (replicate (suc h) v ++ copies (suc h) vs) ≡ replicate (suc k) v ++ copies (suc h) vs = rw e at (drop-run (h - k) (suc k) v (copies (suc h) vs)) in
    let c : h - k + i ≡ i + (h - k) = omega arith in
    let d : get_or (drop (h - k) (replicate (suc h) v ++ copies (suc h) vs)) i 0 ≡ get_or (replicate (suc h) v ++ copies (suc h) vs) (i + (h - k)) 0 = rw c at (get_or-drop (h - k) (replicate (suc h) v ++ copies (suc h) vs) i 0) in
    (rw f at d) ∙ copies_at (suc h) (v ∷ vs) (i + (h - k)) (omega arith)

-- the entry of a bin
abbrev pub value_at : ℕ → ℕ → List ℕ → ℕ → ℕ
value_at h k vs i = get_or vs ((i + (h - k)) / (h + 1)) 0

pub value_there : (h k n i : ℕ) (vs : List ℕ) → n + (h - k) ≤ length vs * (h + 1) → i < n → (i + (h - k)) / (h + 1) < length vs
value_there h k n i vs q l = (div-lt_iff_lt-mul {k = h + 1} {x = i + (h - k)} {y = length vs} (omega arith)).1 (omega arith)

pub spread-is : (h k n : ℕ) (vs : List ℕ) → k ≤ h → n + (h - k) ≤ length vs * (h + 1) → tab n (value_at h k vs) ≡ spread h k n vs
unfolding spread
spread-is h k n [] q l =
    let z : n ≡ 0 = omega (arith, l, zero-mul (h + 1)) in
    rw z (sym (tab-start (value_at h k []) []))
spread-is h k n (v ∷ vs) q l =
    tab-cong (value_at h k (v ∷ vs)) (λ i. get_or (replicate (suc k) v ++ copies (suc h) vs) i 0) n (λ i m. sym (spread_at h k i v vs q ∙ rw (sym (add-one h)) refl))
    ∙ tab-list 0 (replicate (suc k) v ++ copies (suc h) vs) n (rw (length-append, length-replicate {A = ℕ} (suc k) v, length-copies (suc h) vs) (omega (arith, q, rw (add-one h) at l, suc-mul (length vs) (suc h))))

-- ---- the whole

-- the part of the values that is lent
module _ (e l : List ℕ) (c h k : ℕ) (q : take c l ≡ span_leasts h k e) where
  pub values-part : take (c - 0) l ≡ span_leasts h k e
  values-part = let z : c - 0 ≡ c = omega arith in rw z q

  pub values-fit : c ≤ 256 → k ≤ h → 0 < length e → (length e + (h - k) ≤ length (take (c - 0) l) * (h + 1)) × (length (take (c - 0) l) ≤ 256)
  values-fit m n p = (rw values-part (values-long h k e n p), rw length-take (omega arith))

pub shared-all : (e vs ys : List ℕ) (limit h k : ℕ) → ys ≡ spread h k (length e) (limited limit vs) → vs ≡ span_leasts h k e → ys ≡ shared limit h k e
unfolding shared
shared-all e vs ys limit h k q w = q ∙ rw w

-- with a span of 1, or one bin alone, all stays
pub spanned-one : (xs : List ℕ) (h : ℕ) → h ≡ 0 → xs ≡ spanned h xs
unfolding spanned
spanned-one xs h e = rw e

pub spanned-alone : (xs : List ℕ) (h : ℕ) → length xs < 2 → xs ≡ spanned h xs
unfolding spanned
spanned-alone xs zero q = refl
spanned-alone [] (suc h) q = refl
spanned-alone (x ∷ []) (suc h) q = refl
spanned-alone (x ∷ y ∷ r) (suc h) q = absurd (omega arith)

pub spanned-more : (xs ys : List ℕ) (h : ℕ) → ys ≡ shared 15 h 0 xs → 0 < h → 2 ≤ length xs → ys ≡ spanned h xs
unfolding spanned
spanned-more xs ys zero e k l = absurd (omega arith)
spanned-more [] ys (suc h) e k l = absurd (omega arith)
spanned-more (x ∷ []) ys (suc h) e k l = absurd (omega arith)
spanned-more (x ∷ y ∷ r) ys (suc h) e k l = e
