-- Exponents shared by spans are the greatest, for any bytes, any length, any span and any limit of the first bin up to 24 (document 02, W4).
-- Sequences that are shaped for a span are those that are shaped for D15 in the firsts of their spans, so that D15's law says it for all.
use Rattle.std.specs.Prelude.{◌≡◌, refl, List, [], ◌∷◌, ◌++◌, ℕ, zero, suc, ◌*◌, ◌≤◌, min, length, take, drop, replicate}
use Rattle.std.proofs.Common.{arith, suc-mul, length-append}
use Rattle.std.proofs.lemmas.List.{length-replicate}
use Rattle.shaping.specs.Greatest.{Below, Greatest, Follows, ShapedFrom}
use Rattle.shaping.specs.GreatestLaws.{below-trans}
use Rattle.shaping.specs.D15.{limited}
use Rattle.shaping.specs.Spans.{least, leasts, span_leasts, copies, spread, shared}
use Rattle.shaping.specs.PassLaws.{limited-greatest}

-- ---- the least of a span

-- it is not below what is constant on the span and not above it
least_above : (h j y m : ℕ) (ys r : List ℕ) → Follows h j y ys → Below ys r → y ≤ m → y ≤ least j m r
unfolding least
least_above h zero y m ys r s b q = q
least_above h (suc j) y m ys [] s b q = q
least_above h (suc j) y m [] (x ∷ r) s b q = absurd b
least_above h (suc j) y m (z ∷ ys) (x ∷ r) s b q = least_above h j y (min m x) ys r s.1 b.1 (omega arith)

-- v is at most each of the next j
abbrev AtMost : ℕ → ℕ → List ℕ → Type 0
AtMost zero v r = Unit {0}
AtMost (suc j) v [] = Unit {0}
AtMost (suc j) v (x ∷ r) = (v ≤ x) × AtMost j v r

least-le : (j m : ℕ) (r : List ℕ) → least j m r ≤ m
unfolding least
least-le zero m r = omega arith
least-le (suc j) m [] = omega arith
least-le (suc j) m (x ∷ r) = omega (arith, least-le j (min m x) r)

-- what is at most the least is at most each
least-most : (j v m : ℕ) (r : List ℕ) → v ≤ least j m r → AtMost j v r
unfolding least
least-most zero v m r q = tt
least-most (suc j) v m [] q = tt
least-most (suc j) v m (x ∷ r) q = (omega (arith, least-le j (min m x) r, q), least-most j v (min m x) r q)

-- the spans go on after the bins that are still to come
pub leasts-skip : (h j : ℕ) (t : List ℕ) → leasts h j t ≡ leasts h 0 (drop j t)
unfolding leasts
leasts-skip h zero t = refl
leasts-skip h (suc j) [] = refl
leasts-skip h (suc j) (x ∷ t) = leasts-skip h j t

pub length-copies : (g : ℕ) (vs : List ℕ) → length (copies g vs) ≡ length vs * g
unfolding copies
length-copies g [] = omega arith
length-copies g (v ∷ vs) = rw (length-append, length-replicate {A = ℕ} g v, length-copies g vs) (omega (arith, suc-mul (length vs) g))

-- ---- spread over spans: after v, of whose span j bins are still to come

abbrev rest : ℕ → ℕ → ℕ → List ℕ → ℕ → List ℕ
rest h j v vs n = take n (replicate j v ++ copies (suc h) vs)

rest-follows : (h j v : ℕ) (vs : List ℕ) (n : ℕ) → Follows 0 0 v vs → Follows h j v (rest h j v vs n)
unfolding copies
rest-follows h zero v [] zero s = tt
rest-follows h zero v [] (suc n) s = tt
rest-follows h zero v (w ∷ vs) zero s = tt
rest-follows h zero v (w ∷ vs) (suc n) s = (s.0, s.1, s.2, rest-follows h h w vs n s.3)
rest-follows h (suc j) v vs zero s = tt
rest-follows h (suc j) v vs (suc n) s = (refl, rest-follows h j v vs n s)

rest_below : (h j v : ℕ) (vs t : List ℕ) → Below vs (leasts h j t) → AtMost j v t → Below (rest h j v vs (length t)) t
unfolding copies leasts
rest_below h zero v vs [] b a = tt
rest_below h zero v [] (x ∷ t) b a = absurd b
rest_below h zero v (w ∷ vs) (x ∷ t) b a =
    (omega (arith, least-le h x t, b.0), rest_below h h w vs t b.1 (least-most h w x t b.0))
rest_below h (suc j) v vs [] b a = tt
rest_below h (suc j) v vs (x ∷ t) b a = (a.0, rest_below h j v vs t b a.1)

-- ---- the firsts of the spans

unfoldable firsts : ℕ → ℕ → List ℕ → List ℕ
firsts h j [] = []
firsts h zero (x ∷ r) = x ∷ firsts h h r
firsts h (suc j) (x ∷ r) = firsts h j r

firsts-follows : (h j p : ℕ) (ys : List ℕ) → Follows h j p ys → Follows 0 0 p (firsts h j ys)
unfolding firsts
firsts-follows h j p [] s = tt
firsts-follows h zero p (y ∷ ys) s = (s.0, s.1, s.2, firsts-follows h h y ys s.3)
firsts-follows h (suc j) p (y ∷ ys) s = firsts-follows h j p ys s.1

firsts-below : (h j p : ℕ) (ys t : List ℕ) → Follows h j p ys → Below ys t → Below (firsts h j ys) (leasts h j t)
unfolding firsts leasts
firsts-below h j p [] [] s b = tt
firsts-below h j p [] (x ∷ t) s b = absurd b
firsts-below h j p (y ∷ ys) [] s b = absurd b
firsts-below h zero p (y ∷ ys) (x ∷ t) s b = (least_above h h y x ys t s.3 b.1 b.0, firsts-below h h y ys t s.3 b.1)
firsts-below h (suc j) p (y ∷ ys) (x ∷ t) s b = firsts-below h j p ys t s.1 b.1

rest-above : (h j p v : ℕ) (ys vs t : List ℕ) → Follows h j p ys → p ≤ v → Below (firsts h j ys) vs → Below ys t → Below ys (rest h j v vs (length t))
unfolding copies firsts
rest-above h j p v [] vs [] s q f b = tt
rest-above h j p v [] vs (x ∷ t) s q f b = absurd b
rest-above h j p v (y ∷ ys) vs [] s q f b = absurd b
rest-above h zero p v (y ∷ ys) [] (x ∷ t) s q f b = absurd f
rest-above h zero p v (y ∷ ys) (w ∷ vs) (x ∷ t) s q f b = (f.0, rest-above h h y w ys vs t s.3 f.0 f.1 b.1)
rest-above h (suc j) p v (y ∷ ys) vs (x ∷ t) s q f b = (omega arith, rest-above h j p v ys vs t s.1 q f b.1)

-- ---- the theorem

spread-greatest : (limit h k x v : ℕ) (r vs : List ℕ) → Greatest limit 0 0 (least k x r ∷ leasts h k r) (v ∷ vs)
    → Greatest limit h k (x ∷ r) (v ∷ rest h k v vs (length r))
spread-greatest limit h k x v r vs g = record {
  shaped = (g.shaped.0, rest-follows h k v vs (length r) g.shaped.1);
  below = (omega (arith, least-le k x r, g.below.0), rest_below h k v vs r g.below.1 (least-most k v x r g.below.0));
  most = λ ys. most-of ys;
}
  where
    most-of : (ys : List ℕ) → ShapedFrom limit h k ys → Below ys (x ∷ r) → Below ys (v ∷ rest h k v vs (length r))
    most-of [] s b = absurd b
    most-of (y ∷ ys) s b =
        let m : Below (y ∷ firsts h k ys) (v ∷ vs) =
        g.most (y ∷ firsts h k ys) (s.0, firsts-follows h k y ys s.1) (least_above h k y x ys r s.1 b.1 b.0, firsts-below h k y ys r s.1 b.1) in
        (m.0, rest-above h k y v ys vs r s.1 m.0 m.1 b.1)

pub shared-greatest : (limit h k : ℕ) (xs : List ℕ) → limit ≤ 24 → Greatest limit h k xs (shared limit h k xs)
unfolding shared span_leasts spread limited
shared-greatest limit h k [] l = record { shaped = tt; below = tt; most = λ ys s b. b }
shared-greatest limit h k (x ∷ r) l = spread-greatest limit h k x _ r _ (limited-greatest limit (least k x r ∷ leasts h k r) l)

-- ---- D15 shaping before it changes nothing

-- what is shaped for a span is shaped for D15
follows-all : (h j p : ℕ) (xs : List ℕ) → p ≤ 24 → Follows h j p xs → Follows 0 0 p xs
follows-all h j p [] l s = tt
follows-all h zero p (x ∷ r) l s = (s.0, s.1, s.2, follows-all h h x r s.2 s.3)
follows-all h (suc j) p (x ∷ r) l s = (omega arith, omega arith, omega arith, follows-all h j x r (omega arith) (rw s.0 s.1))

shaped-all : (limit h k : ℕ) (xs : List ℕ) → limit ≤ 24 → ShapedFrom limit h k xs → ShapedFrom limit 0 0 xs
shaped-all limit h k [] l s = tt
shaped-all limit h k (x ∷ r) l s = (s.0, follows-all h k x r (omega arith) s.1)

-- so the greatest of D15 has the same greatest under it
pub greatest-twice : (limit h k : ℕ) (xs zs ws : List ℕ) → limit ≤ 24 → Greatest limit 0 0 xs zs → Greatest limit h k zs ws → Greatest limit h k xs ws
greatest-twice limit h k xs zs ws l f g = record {
  shaped = g.shaped;
  below = below-trans ws zs xs g.below f.below;
  most = λ ys s b. g.most ys s (f.most ys (shaped-all limit h k ys l s) b);
}
