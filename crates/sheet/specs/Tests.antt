-- A test on all numbers below a bound, and what it shows; and seven tests at once.
use Rattle.std.specs.Prelude.{ℕ, zero, suc, ◌<◌, ◌≡◌, refl, Bool, true, ◌&&◌}
use Rattle.std.proofs.Common.{arith}
use Rattle.std.proofs.Math.Decide.{dec_lt}
use Rattle.bits.specs.Tests.{both}
use Rattle.sheet.specs.Ranges.{all_below}

pub all-below : (n : ℕ) (f : ℕ → Bool) → all_below n f ≡ true → (i : ℕ) → i < n → f i ≡ true
all-below zero f h i b = absurd (omega arith)
all-below (suc n) f h i b = by_cases (dec_lt i n) (all-below n f (both (all_below n f) (f n) h).0 i)
  where
    by_cases : Dec (i < n) → (i < n → f i ≡ true) → f i ≡ true
    by_cases (yes below) earlier = earlier below
    by_cases (no above) earlier = let e : n ≡ i = omega (arith, above) in rw e at (both (all_below n f) (f n) h).1

pub all_hold : (n : ℕ) (f : ℕ → Bool) → ((i : ℕ) → i < n → f i ≡ true) → all_below n f ≡ true
all_hold zero f h = refl
all_hold (suc n) f h = rw (all_hold n f (λ i l. h i (omega arith)), h n (omega arith))

pub all-seven : (a b c d e f g : Bool) → (a && b && c && d && e && f && g) ≡ true
    → (a ≡ true) × (b ≡ true) × (c ≡ true) × (d ≡ true) × (e ≡ true) × (f ≡ true) × (g ≡ true)
all-seven a b c d e f g h =
    let upToF = both (a && b && c && d && e && f) g h in
    let upToE = both (a && b && c && d && e) f upToF.0 in
    let upToD = both (a && b && c && d) e upToE.0 in
    let upToC = both (a && b && c) d upToD.0 in
    let upToB = both (a && b) c upToC.0 in
    let upToA = both a b upToB.0 in
    (upToA.0, upToA.1, upToB.1, upToC.1, upToD.1, upToE.1, upToF.1)
