-- What the test for finite coefficients says of each of them.
use Rattle.std.specs.Prelude.{ℕ, zero, suc, ◌<◌, true, List, [], ◌∷◌, ◌≡◌, T, Float, length, get_or}
use Rattle.std.proofs.Common.{arith}
use Rattle.std.specs.Float.{nan}
use Rattle.std.specs.Float.Ieee.Scale.{finite}
use Rattle.bits.specs.Tests.{both}
use Rattle.sheet.specs.Tests.{all-below}
use Rattle.sheet.specs.Settings.{channels}
use Rattle.sheet.specs.declared.settings.Settings.{Settings}
use Rattle.frame_runs.specs.Finite.{finite_part, finite_row, all_finite}
use Rattle.frame.specs.Layout.{below_end}

-- the coefficient at i
pub finite-at : (xs : List Float) (i : ℕ) → finite_part xs ≡ true → i < length xs → T (finite (get_or xs i nan))
unfolding finite_part
finite-at [] i t h = absurd (omega arith)
finite-at (x ∷ xs) zero t h = rw (both (finite x) (finite_part xs) t).0 tt
finite-at (x ∷ xs) (suc i) t h = finite-at xs i (both (finite x) (finite_part xs) t).1 (omega arith)

-- the part of a channel's block
pub finite-below : (settings : Settings) (coeffs : List Float) (b c : ℕ) → all_finite settings coeffs ≡ true → b < 6 → c < channels settings
    → finite_part (below_end settings b c coeffs) ≡ true
unfolding all_finite finite_row
finite-below settings coeffs b c t hb hc = all-below (channels settings) _ (all-below 6 (finite_row settings coeffs) t b hb) c hc
