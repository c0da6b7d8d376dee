-- Where `quantise_exponents_to_grpsize` answers as the Rust's does (document 02, W4: "Equality with the Rust ends only where a short last span isn't
-- the only one"): the bins after bin 0 make whole spans, or there is one span only. Of its three passes only the backward one can differ.
use Rattle.std.specs.Prelude.{◌≡◌, refl, Bool, true, false, cond, List, [], ◌∷◌, ◌++◌, ◌⊎◌, ℕ, zero, suc, ◌+◌, ◌-◌, ◌*◌, ◌%◌, ◌/◌, ◌≤◌, ◌<◌, min, ltb, length, take, drop, replicate}
use Rattle.std.proofs.Common.{sym, ap, ◌∙◌, inl, inr, ⊎_elim, arith, suc-mul, sub-one, ltb-true, ltb-false, length-drop, take_all}
use Rattle.shaping.specs.D15.{roof, under, backward, held, forward, first, limited}
use Rattle.shaping.specs.Spans.{least, leasts, span_leasts, copies, spread, shared, spanned}
use Rattle.shaping.specs.Passes.{is_span, quantised}
use Rattle.shaping.specs.Strategies.{merged}
use Rattle.shaping.specs.GroupsLaws.{span-is}
use Rattle.shaping.specs.SpanLaws.{leasts-skip, length-copies}
use Rattle.shaping.proofs.ShapedLaws.{quantised-is}
use Rattle.shaping.specs.RustSpans.{count_down, lacks, lowered, front_lowered, lower_spans, forward_spans, led, rust_spanned}

-- ---- pass 1 and the forward pass are those of the spans' values, for every length

-- pass 1 leaves each span's least in all its bins
merged-is : (h j v : ℕ) (t : List ℕ) → merged h j v t ≡ take (length t) (replicate j v ++ copies (suc h) (leasts h j t))
unfolding merged leasts copies
merged-is h j v [] = refl
merged-is h zero v (x ∷ t) = ap (λ (l : List ℕ). least h x t ∷ l) (merged-is h h (least h x t) t)
merged-is h (suc j) v (x ∷ t) = ap (λ (l : List ℕ). v ∷ l) (merged-is h j v t)

-- the forward pass over values spread over spans is the values' own, spread; the bins of a span that has begun may hold anything
forward-is : (h j p q n : ℕ) (vs : List ℕ)
    → forward_spans h j p (take n (replicate j q ++ copies (suc h) vs)) ≡ take n (replicate j p ++ copies (suc h) (forward p vs))
unfolding forward_spans copies forward
forward-is h j p q zero vs = refl
forward-is h zero p q (suc n) [] = refl
forward-is h zero p q (suc n) (v ∷ vs) = ap (λ (l : List ℕ). held p v ∷ l) (forward-is h h (held p v) v n vs)
forward-is h (suc j) p q (suc n) vs = ap (λ (l : List ℕ). p ∷ l) (forward-is h j p q n vs)

first-is : (limit h x n : ℕ) (vs : List ℕ) → first limit x (take (suc n) (copies (suc h) vs)) ≡ first limit x vs
unfolding copies
first-is limit h x n [] = refl
first-is limit h x n (v ∷ vs) = refl

-- ---- the backward pass over whole spans is that of their values

count-down-is : (h c : ℕ) → 0 < c → count_down h c ≡ c - 1
count-down-is h zero p = absurd (omega arith)
count-down-is h (suc c) p = sym (sub-one (suc c))

lacks-run : (h j x : ℕ) (r : List ℕ) → j ≤ h → lacks h r ≡ 0 → count_down h (lacks h (replicate j x ++ r)) ≡ h - j
unfolding lacks
lacks-run h zero x r q z = rw z (omega arith)
lacks-run h (suc j) x r q z = rw (lacks-run h j x r (omega arith) z) (count-down-is h (h - j) (omega arith) ∙ omega arith)

front-off : (h c : ℕ) (l : List ℕ) → 0 < c → front_lowered h c l ≡ l
front-off h zero l p = absurd (omega arith)
front-off h (suc c) l p = refl

lower-run : (h j x : ℕ) (r : List ℕ) → j ≤ h → lacks h r ≡ 0 → lower_spans h (replicate j x ++ r) ≡ replicate j x ++ lower_spans h r
unfolding lacks lower_spans
lower-run h zero x r q z = refl
lower-run h (suc j) x r q z =
    rw (lacks-run h j x r (omega arith) z) (front-off h (h - j) (x ∷ lower_spans h (replicate j x ++ r)) (omega arith)
    ∙ ap (λ (l : List ℕ). x ∷ l) (lower-run h j x r (omega arith) z))

drop-run : (j x : ℕ) (r : List ℕ) → drop j (replicate j x ++ r) ≡ r
drop-run zero x r = refl
drop-run (suc j) x r = drop-run j x r

cond-min : (h x w : ℕ) (t : Bool) (r : List ℕ) → ltb w x ≡ t → cond t (replicate h w ++ r) (replicate h x ++ r) ≡ replicate h (min x w) ++ r
cond-min h x w true r e = let k : min x w ≡ w = omega (arith, ltb-true w x e) in rw k
cond-min h x w false r e = let k : min x w ≡ x = omega (arith, ltb-false w x e) in rw k

lowered-run : (h x : ℕ) (r : List ℕ) → lowered h (replicate (suc h) x ++ r) r ≡ replicate (suc h) (under x r) ++ r
lowered-run h x [] = refl
lowered-run h x (y ∷ r) = cond-min (suc h) x (roof y) (ltb (roof y) x) (y ∷ r) refl

under-copies : (h x : ℕ) (r : List ℕ) → under x (copies (suc h) r) ≡ under x r
unfolding copies
under-copies h x [] = refl
under-copies h x (y ∷ r) = refl

lacks-copies : (h : ℕ) (vs : List ℕ) → lacks h (copies (suc h) vs) ≡ 0
unfolding lacks copies
lacks-copies h [] = refl
lacks-copies h (x ∷ vs) = lacks-run h h x (copies (suc h) vs) (omega arith) (lacks-copies h vs) ∙ omega arith

lower-copies : (h : ℕ) (vs : List ℕ) → lower_spans h (copies (suc h) vs) ≡ copies (suc h) (backward vs)
unfolding lower_spans backward copies
lower-copies h [] = refl
lower-copies h (x ∷ vs) =
    let z : h - h ≡ 0 = omega arith in
    rw (lacks-run h h x (copies (suc h) vs) (omega arith) (lacks-copies h vs), z, lower-run h h x (copies (suc h) vs) (omega arith) (lacks-copies h vs), lower-copies h vs, drop-run h x (copies (suc h) (backward vs)))
    (lowered-run h x (copies (suc h) (backward vs)) ∙ rw (under-copies h x (backward vs)))

length-backward : (vs : List ℕ) → length (backward vs) ≡ length vs
unfolding backward
length-backward [] = refl
length-backward (v ∷ vs) = ap suc (length-backward vs)

whole-leasts : (h k : ℕ) (t : List ℕ) → length t ≡ k * suc h → length (leasts h 0 t) ≡ k
unfolding leasts
whole-leasts h zero [] e = refl
whole-leasts h zero (x ∷ t) e = absurd (omega arith)
whole-leasts h (suc k) [] e = absurd (omega (arith, suc-mul k (suc h), e))
whole-leasts h (suc k) (x ∷ t) e =
    let m : length t ≡ k * suc h + h = omega (arith, suc-mul k (suc h)) in
    ap suc (ap length (leasts-skip h h t) ∙ whole-leasts h k (drop h t) (rw length-drop (omega arith)))

-- what the backward pass has to leave of the bins from bin 1 on
abbrev Lowered : ℕ → List ℕ → Type 0
Lowered h t = lower_spans h (merged h 0 0 t) ≡ take (length t) (copies (suc h) (backward (leasts h 0 t)))

whole-lowered : (h k : ℕ) (t : List ℕ) → length t ≡ k * suc h → Lowered h t
whole-lowered h k t e =
    let n : (vs : List ℕ) → length vs ≡ k → take (length t) (copies (suc h) vs) ≡ copies (suc h) vs = λ vs l. take_all (length t) (copies (suc h) vs) (rw (length-copies (suc h) vs, l, e) (omega arith)) in
    let ls = leasts h 0 t in
    let l = whole-leasts h k t e in
    ap (lower_spans h) (merged-is h 0 0 t ∙ n ls l) ∙ (lower-copies h ls ∙ sym (n (backward ls) (length-backward ls ∙ l)))

-- ---- one short span

lacks-short : (h : ℕ) (l : List ℕ) → length l ≤ h → count_down h (lacks h l) ≡ h - length l
unfolding lacks
lacks-short h [] q = omega arith
lacks-short h (y ∷ l) q = rw (lacks-short h l (omega arith)) (count-down-is h (h - length l) (omega arith) ∙ omega arith)

lower-short : (h : ℕ) (l : List ℕ) → length l ≤ h → lower_spans h l ≡ l
unfolding lower_spans
lower-short h [] q = refl
lower-short h (x ∷ l) q = rw (lacks-short h l (omega arith), lower-short h l (omega arith)) (front-off h (h - length l) (x ∷ l) (omega arith))

length_merged : (h j v : ℕ) (t : List ℕ) → length (merged h j v t) ≡ length t
unfolding merged
length_merged h j v [] = refl
length_merged h zero v (x ∷ t) = ap suc (length_merged h h (least h x t) t)
length_merged h (suc j) v (x ∷ t) = ap suc (length_merged h j v t)

leasts-none : (h j : ℕ) (t : List ℕ) → length t ≤ j → leasts h j t ≡ []
unfolding leasts
leasts-none h j [] q = refl
leasts-none h zero (x ∷ t) q = absurd (omega arith)
leasts-none h (suc j) (x ∷ t) q = leasts-none h j t (omega arith)

one-stays : (h : ℕ) (t : List ℕ) → length t ≤ h → backward (leasts h 0 t) ≡ leasts h 0 t
unfolding leasts backward
one-stays h [] q = refl
one-stays h (x ∷ t) q = rw (leasts-none h h t (omega arith)) refl

short-lowered : (h : ℕ) (t : List ℕ) → length t ≤ h → Lowered h t
short-lowered h t q = rw (one-stays h t q) (lower-short h (merged h 0 0 t) (omega (arith, length_merged h 0 0 t)) ∙ merged-is h 0 0 t)

-- ---- the theorem

passes-shared : (h x y : ℕ) (r : List ℕ) → Lowered (suc h) (y ∷ r) → rust_spanned (suc h) (x ∷ y ∷ r) ≡ spanned (suc h) (x ∷ y ∷ r)
unfolding rust_spanned spanned led shared span_leasts least spread limited
passes-shared h x y r e =
    let vs = backward (leasts (suc h) 0 (y ∷ r)) in
    rw (e, first-is 15 (suc h) x (length r) vs) (ap (λ (l : List ℕ). first 15 x vs ∷ l) (forward-is (suc h) 0 (first 15 x vs) 0 (suc (length r)) vs))

spans-same : (h k : ℕ) (xs : List ℕ) → (length xs - 1 ≡ k * suc h) ⊎ (length xs ≤ suc h) → rust_spanned h xs ≡ spanned h xs
unfolding rust_spanned spanned
spans-same zero k xs c = refl
spans-same (suc h) k [] c = refl
spans-same (suc h) k (x ∷ []) c = refl
spans-same (suc h) k (x ∷ y ∷ r) c =
    passes-shared h x y r (⊎_elim (λ e. whole-lowered (suc h) k (y ∷ r) (omega (arith, e))) (λ l. short-lowered (suc h) (y ∷ r) (omega (arith, l))) c)

-- the accepted calls: the bins after bin 0 make whole spans, or there is one span at most
pub as-the-rust : (span : ℕ) (xs : List ℕ) → is_span span ≡ true → length xs ≤ 256 → ((length xs - 1) % span ≡ 0) ⊎ (length xs ≤ span)
    → quantised span xs ≡ rust_spanned (span - 1) xs
as-the-rust span xs s l c =
    rw (quantised-is span xs s l)
    (sym (⊎_elim (λ e. rw e (spans-same 0 (length xs - 1) xs (inl (omega arith))))
    (λ r. ⊎_elim (λ e. rw e (by_two (rw e at c))) (λ e. rw e (by-four (rw e at c))) r) (span-is span s)))
  where
    by_two : ((length xs - 1) % 2 ≡ 0) ⊎ (length xs ≤ 2) → rust_spanned 1 xs ≡ spanned 1 xs
    by_two d = spans-same 1 ((length xs - 1) / 2) xs (⊎_elim (λ m. inl (omega arith)) (λ m. inr m) d)

    by-four : ((length xs - 1) % 4 ≡ 0) ⊎ (length xs ≤ 4) → rust_spanned 3 xs ≡ spanned 3 xs
    by-four d = spans-same 3 ((length xs - 1) / 4) xs (⊎_elim (λ m. inl (omega arith)) (λ m. inr m) d)
