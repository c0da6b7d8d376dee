-- The turns of loops over the bins of a part: what is done, then what is left to do, is the whole.
use Prim.Native.Nat.{ℕ, ◌+◌, ◌≤◌, ◌<◌, min}
use mathlib.Core.List.{List, ◌++◌}
use mathlib.Core.Path.{◌≡◌}
use native.Mathlib.Numerals.{add-one}
use native.Mathlib.Omega.{arith}
use lib.Ieee.{Float, nan}
use lib.ListN.{length, take, drop, get_or, set, drop_of_length-le}
use lib.Seq.{drop-cons, drop-set-lt}
use Rattle.shaping.specs.Extract.{exponent_of}
use Rattle.frame_runs.specs.FillingLaws.{stored, ended}
use Rattle.frame_runs.specs.Runs.{exponents_of, least_of}

-- ---- the exponents of coefficients

module _ (xs : List Float) (part whole : List ℕ) (i v : ℕ) (h : i < length part) (l : i < length xs) where
  pub extract-more : v ≡ exponent_of (get_or xs i nan) → take i part ++ exponents_of (drop i xs) ≡ whole
      → take (i + 1) (set part i v) ++ exponents_of (drop (i + 1) xs) ≡ whole
  unfolding exponents_of
  extract-more q e = stored part _ whole i v h (rw (q, add-one) (rw (drop-cons xs i nan l) at e))

  pub lower-more : v ≡ min (get_or part i 0) (exponent_of (get_or xs i nan)) → take i part ++ least_of (drop i part) (exponents_of (drop i xs)) ≡ whole
      → take (i + 1) (set part i v) ++ least_of (drop (i + 1) (set part i v)) (exponents_of (drop (i + 1) xs)) ≡ whole
  unfolding exponents_of least_of
  lower-more q e =
      rw (drop-set-lt (i + 1) part i v (omega arith))
      (stored part _ whole i v h (rw (q, add-one) (rw (drop-cons part i 0 h, drop-cons xs i nan l) at e)))

module _ (xs : List Float) (part whole : List ℕ) (i : ℕ) (h : length part ≤ i) where
  pub extract-end : length xs ≤ i → take i part ++ exponents_of (drop i xs) ≡ whole → part ≡ whole
  unfolding exponents_of
  extract-end l e = ended part _ whole i h (rw (drop_of_length-le xs l)) e

  pub lower-end : take i part ++ least_of (drop i part) (exponents_of (drop i xs)) ≡ whole → part ≡ whole
  unfolding least_of
  lower-end e = ended part _ whole i h (rw (drop_of_length-le part h)) e
