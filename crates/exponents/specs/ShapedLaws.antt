-- Laws of shaped exponents (document 01, "Exponents") as a set codes them: the absolute value, a span taken off the front, and a span put
-- behind.
use Rattle.std.specs.Prelude.{◌≡◌, refl, List, [], ◌∷◌, ◌++◌, ℕ, zero, suc, ◌+◌, ◌-◌, ◌*◌, ◌≤◌, ◌<◌, length, take, drop, get_or, replicate}
use Rattle.std.proofs.Common.{ap, zero-mul, suc-mul, arith}
use Rattle.shaping.specs.Greatest.{Follows, Shaped}
use Rattle.exponents.specs.Inner.{Near}
use Rattle.exponents.specs.Reading.{last}

-- the absolute value fits its 4 bits
pub first-low : (h : ℕ) (exps : List ℕ) → Shaped h exps → get_or exps 0 0 ≤ 15
first-low h [] f = omega arith
first-low h (x ∷ r) f = f.0

-- ---- a span taken off

-- the exponents of the span that are to come are p again, and behind them the next span follows
pub follows-run : (h j p : ℕ) (xs : List ℕ) → Follows h j p xs → (take j xs ≡ replicate (length (take j xs)) p) × Follows h 0 p (drop j xs)
follows-run h zero p xs f = (refl, f)
follows-run h (suc j) p [] f = (refl, tt)
follows-run h (suc j) p (x ∷ r) f =
    let i = follows-run h j p r f.1 in
    (rw f.0 (ap (λ (l : List ℕ). p ∷ l) i.0), i.1)

-- ---- a span put behind

follows_same : (h j e n : ℕ) → n ≤ j → Follows h j e (replicate n e)
follows_same h zero e zero l = tt
follows_same h zero e (suc n) l = absurd (omega arith)
follows_same h (suc j) e zero l = tt
follows_same h (suc j) e (suc n) l = (refl, follows_same h j e n (omega arith))

follows-span : (h p e n : ℕ) → Near p e → n ≤ suc h → Follows h 0 p (replicate n e)
follows-span h p e zero b l = tt
follows-span h p e (suc n) b l = (b.0, b.1, b.2, follows_same h h e n (omega arith))

last_cons : (p x : ℕ) (r : List ℕ) → last (p ∷ x ∷ r) ≡ last (x ∷ r)
last_cons p x r =
    let e : suc (suc (length r)) - 1 ≡ suc (suc (length r) - 1) = omega arith in
    rw e

follows-append : (h j p k : ℕ) (xs : List ℕ) (n e : ℕ) → Follows h j p xs → length xs ≡ j + k * suc h → Near (last (p ∷ xs)) e → n ≤ suc h
    → Follows h j p (xs ++ replicate n e)
follows-append h zero p k [] n e f a b l = follows-span h p e n b l
follows-append h zero p zero (x ∷ r) n e f a b l = absurd (omega (arith, zero-mul (suc h)))
follows-append h zero p (suc k) (x ∷ r) n e f a b l =
    (f.0, f.1, f.2, follows-append h h x k r n e f.3 (omega (arith, suc-mul k (suc h))) (rw (last_cons p x r) at b) l)
follows-append h (suc j) p k [] n e f a b l = absurd (omega arith)
follows-append h (suc j) p k (x ∷ r) n e f a b l =
    (f.0, follows-append h j p k r n e f.1 (omega arith) (rw (last_cons p x r, f.0) at b) l)

-- behind k whole spans one more, which may be short
pub shaped-append : (span : ℕ) (exps : List ℕ) (k n e : ℕ) → Shaped (span - 1) exps → 0 < span → length exps ≡ 1 + k * span → Near (last exps) e → n ≤ span
    → Shaped (span - 1) (exps ++ replicate n e)
shaped-append span [] k n e f w a b l = absurd (omega arith)
shaped-append span (x ∷ r) k n e f w a b l =
    let s : suc (span - 1) ≡ span = omega arith in
    (f.0, follows-append (span - 1) 0 x k r n e f.1 (rw s (omega arith)) b (omega arith))
