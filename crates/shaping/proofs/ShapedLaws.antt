-- Laws of shaped exponents: the test holds exactly where they are shaped; none is above 24, as allocation and mantissas ask; and what
-- document 01, "Exponents", and document 02, W4, say that the accepted calls leave.
use Rattle.std.specs.Prelude.{◌≡◌, refl, true, List, [], ◌∷◌, ◌⊎◌, ℕ, zero, suc, ◌+◌, ◌-◌, ◌≤◌, leb, eqb, length, get_or, Result, Ok, Err}
use Rattle.std.proofs.Common.{⊎_elim, arith, leb-true, eqb-true, le-leb, eq-eqb}
use Rattle.bits.specs.Answer.{kept}
use Rattle.bits.specs.declared.refusal.Refusal.{Refusal}
use Rattle.bits.specs.Tests.{both}
use Rattle.shaping.specs.Shaped.{follows, shaped_for}
use Rattle.shaping.specs.D15.{d15}
use Rattle.shaping.specs.Spans.{spanned}
use Rattle.shaping.specs.Passes.{is_span, preprocess_check, preprocessed, quantise_check, quantised}
use Rattle.shaping.specs.Greatest.{Below, Greatest, Follows, ShapedFrom, Shaped}
use Rattle.shaping.specs.GreatestLaws.{greatest-unique, below_at, below-refl}
use Rattle.shaping.specs.PassLaws.{limited-greatest}
use Rattle.shaping.specs.SpanLaws.{shared-greatest, greatest-twice}

-- ---- the test holds exactly where they are shaped

pub follows-yes : (h j p : ℕ) (xs : List ℕ) → follows h j p xs ≡ true → Follows h j p xs
unfolding follows
follows-yes h j p [] e = tt
follows-yes h zero p (x ∷ r) e =
    let a = both (leb x (p + 2)) _ e in
    let b = both (leb p (x + 2)) _ a.1 in
    let c = both (leb x 24) _ b.1 in
    (leb-true x (p + 2) a.0, leb-true p (x + 2) b.0, leb-true x 24 c.0, follows-yes h h x r c.1)
follows-yes h (suc j) p (x ∷ r) e =
    let a = both (eqb x p) _ e in
    (eqb-true x p a.0, follows-yes h j p r a.1)

pub follows_of : (h j p : ℕ) (xs : List ℕ) → Follows h j p xs → follows h j p xs ≡ true
unfolding follows
follows_of h j p [] s = refl
follows_of h zero p (x ∷ r) s =
    rw (le-leb x (p + 2) s.0, le-leb p (x + 2) s.1, le-leb x 24 s.2) (follows_of h h x r s.3)
follows_of h (suc j) p (x ∷ r) s = rw (eq-eqb x p s.0) (follows_of h j p r s.1)

pub shaped-yes : (h : ℕ) (xs : List ℕ) → shaped_for h xs ≡ true → Shaped h xs
unfolding shaped_for
shaped-yes h [] e = tt
shaped-yes h (x ∷ r) e =
    let a = both (leb x 15) _ e in
    (leb-true x 15 a.0, follows-yes h 0 x r a.1)

pub shaped_of : (h : ℕ) (xs : List ℕ) → Shaped h xs → shaped_for h xs ≡ true
unfolding shaped_for
shaped_of h [] s = refl
shaped_of h (x ∷ r) s = rw (le-leb x 15 s.0) (follows_of h 0 x r s.1)

-- ---- none is above 24

follows-at-most : (h j p : ℕ) (xs : List ℕ) → p ≤ 24 → Follows h j p xs → (i : ℕ) → get_or xs i 0 ≤ 24
follows-at-most h j p [] k s i = omega arith
follows-at-most h zero p (x ∷ r) k s zero = s.2
follows-at-most h zero p (x ∷ r) k s (suc i) = follows-at-most h h x r s.2 s.3 i
follows-at-most h (suc j) p (x ∷ r) k s zero = omega arith
follows-at-most h (suc j) p (x ∷ r) k s (suc i) = follows-at-most h j p r k s.1 i

pub from-at-most : (limit h k : ℕ) (xs : List ℕ) → limit ≤ 24 → ShapedFrom limit h k xs → (i : ℕ) → get_or xs i 0 ≤ 24
from-at-most limit h k [] l s i = omega arith
from-at-most limit h k (x ∷ r) l s zero = omega arith
from-at-most limit h k (x ∷ r) l s (suc i) = follows-at-most h k x r (omega arith) s.1 i

pub shaped-at-most : (h : ℕ) (xs : List ℕ) → Shaped h xs → (i : ℕ) → get_or xs i 0 ≤ 24
shaped-at-most h xs s = from-at-most 15 h 0 xs (omega arith) s

-- ---- the accepted calls

pub preprocessed-is : (xs : List ℕ) → length xs ≤ 256 → preprocessed xs ≡ d15 xs
unfolding preprocessed
preprocessed-is xs l = rw (le-leb (length xs) 256 l)

pub quantised-is : (span : ℕ) (xs : List ℕ) → is_span span ≡ true → length xs ≤ 256 → quantised span xs ≡ spanned (span - 1) xs
unfolding quantised
quantised-is span xs s l = rw (s, le-leb (length xs) 256 l)

-- `preprocess_d15`: "the pointwise greatest sequence not above the input with first at most 15, all at most 24, neighbours within 2",
-- which is one sequence only
d15-greatest : (xs : List ℕ) → Greatest 15 0 0 xs (d15 xs)
d15-greatest xs = limited-greatest 15 xs (omega arith)

pub preprocessed-greatest : (xs : List ℕ) → length xs ≤ 256 → Greatest 15 0 0 xs (preprocessed xs)
preprocessed-greatest xs l = rw (preprocessed-is xs l) (d15-greatest xs)

pub preprocessed-only : (xs zs : List ℕ) → length xs ≤ 256 → Greatest 15 0 0 xs zs → zs ≡ preprocessed xs
preprocessed-only xs zs l g = greatest-unique 15 0 0 xs zs (preprocessed xs) g (preprocessed-greatest xs l)

-- `quantise_exponents_to_grpsize`: "the greatest legal one for every length from 2 and spans 2 and 4" (document 02, W4), which is one sequence
-- only: not above the input, bin 0 at most 15, all at most 24, constant on spans from bin 1, neighbouring spans within 2
spanned-greatest : (h : ℕ) (xs : List ℕ) → 2 ≤ length xs → Greatest 15 (suc h) 0 xs (spanned (suc h) xs)
unfolding spanned
spanned-greatest h [] l = absurd (omega arith)
spanned-greatest h (x ∷ []) l = absurd (omega arith)
spanned-greatest h (x ∷ y ∷ r) l = shared-greatest 15 (suc h) 0 (x ∷ y ∷ r) (omega arith)

two-or-four : (span : ℕ) → (span ≡ 2) ⊎ (span ≡ 4) → is_span span ≡ true
two-or-four span s = ⊎_elim (λ e. rw e refl) (λ e. rw e refl) s

pub quantised-greatest : (span : ℕ) (xs : List ℕ) → (span ≡ 2) ⊎ (span ≡ 4) → 2 ≤ length xs → length xs ≤ 256
    → Greatest 15 (span - 1) 0 xs (quantised span xs)
quantised-greatest span xs s few many =
    rw (quantised-is span xs (two-or-four span s) many)
    (⊎_elim (λ e. rw e (spanned-greatest 0 xs few)) (λ e. rw e (spanned-greatest 2 xs few)) s)

pub quantised-only : (span : ℕ) (xs zs : List ℕ) → (span ≡ 2) ⊎ (span ≡ 4) → 2 ≤ length xs → length xs ≤ 256
    → Greatest 15 (span - 1) 0 xs zs → zs ≡ quantised span xs
quantised-only span xs zs s few many g =
    greatest-unique 15 (span - 1) 0 xs zs (quantised span xs) g (quantised-greatest span xs s few many)

-- ---- no exponent is raised, whatever the span and the length, and their number stays; so also where a call is refused

spanned-below : (h : ℕ) (xs : List ℕ) → Below (spanned h xs) xs
unfolding spanned
spanned-below zero xs = below-refl xs
spanned-below (suc h) [] = tt
spanned-below (suc h) (x ∷ []) = (omega arith, tt)
spanned-below (suc h) (x ∷ y ∷ r) = (shared-greatest 15 (suc h) 0 (x ∷ y ∷ r) (omega arith)).below

below-either : (t : Result Unit Refusal) (zs xs : List ℕ) → Below zs xs → Below (kept t zs xs) xs
below-either (Ok _) zs xs b = b
below-either (Err _) zs xs b = below-refl xs

preprocessed-below : (xs : List ℕ) → Below (preprocessed xs) xs
unfolding preprocessed
preprocessed-below xs = below-either (preprocess_check xs) (d15 xs) xs (d15-greatest xs).below

quantised-below : (span : ℕ) (xs : List ℕ) → Below (quantised span xs) xs
unfolding quantised
quantised-below span xs = below-either (quantise_check span xs) (spanned (span - 1) xs) xs (spanned-below (span - 1) xs)

pub length-preprocessed : (xs : List ℕ) → length (preprocessed xs) ≡ length xs
length-preprocessed xs = (below_at (preprocessed xs) xs (preprocessed-below xs)).0

pub preprocessed-not-above : (xs : List ℕ) (i : ℕ) → get_or (preprocessed xs) i 0 ≤ get_or xs i 0
preprocessed-not-above xs = (below_at (preprocessed xs) xs (preprocessed-below xs)).1

pub length-quantised : (span : ℕ) (xs : List ℕ) → length (quantised span xs) ≡ length xs
length-quantised span xs = (below_at (quantised span xs) xs (quantised-below span xs)).0

pub quantised-not-above : (span : ℕ) (xs : List ℕ) (i : ℕ) → get_or (quantised span xs) i 0 ≤ get_or xs i 0
quantised-not-above span xs = (below_at (quantised span xs) xs (quantised-below span xs)).1

-- ---- the exponents of a run: "`preprocess_d15`, then the strategy's span"

-- of exponents that are shaped for D15, also of one bin alone, which is at most 15 then
spanned-under : (h : ℕ) (zs : List ℕ) → Shaped 0 zs → Greatest 15 h 0 zs (spanned h zs)
unfolding spanned
spanned-under zero zs s = record { shaped = s; below = below-refl zs; most = λ ys _ b. b }
spanned-under (suc h) [] s = record { shaped = tt; below = tt; most = λ ys _ b. b }
spanned-under (suc h) (x ∷ []) s = record { shaped = (s.0, tt); below = below-refl (x ∷ []); most = λ ys _ b. b }
spanned-under (suc h) (x ∷ y ∷ r) s = shared-greatest 15 (suc h) 0 (x ∷ y ∷ r) (omega arith)

-- they are the greatest that are shaped for the strategy and not above what they were made of, for every span and length
pub run-greatest : (span : ℕ) (xs : List ℕ) → is_span span ≡ true → length xs ≤ 256 → Greatest 15 (span - 1) 0 xs (quantised span (preprocessed xs))
run-greatest span xs s l =
    let g = preprocessed-greatest xs l in
    rw (quantised-is span (preprocessed xs) s (omega (arith, length-preprocessed xs)))
    (greatest-twice 15 (span - 1) 0 xs (preprocessed xs) (spanned (span - 1) (preprocessed xs)) (omega arith) g (spanned-under (span - 1) (preprocessed xs) g.shaped))

pub run-shaped : (span : ℕ) (xs : List ℕ) → is_span span ≡ true → length xs ≤ 256 → Shaped (span - 1) (quantised span (preprocessed xs))
run-shaped span xs s l = (run-greatest span xs s l).shaped

-- so with the spans 2 and 4 `preprocess_d15` before changes nothing
pub quantised-again : (span : ℕ) (xs : List ℕ) → (span ≡ 2) ⊎ (span ≡ 4) → 2 ≤ length xs → length xs ≤ 256
    → quantised span (preprocessed xs) ≡ quantised span xs
quantised-again span xs s few many =
    quantised-only span xs (quantised span (preprocessed xs)) s few many (run-greatest span xs (two-or-four span s) many)
