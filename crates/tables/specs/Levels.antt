-- What holds of the levels of A/52 7.3 (Tables 7.19 to 7.23), for any number of levels.
use Rattle.std.specs.Prelude.{◌≡◌, Bool, true, false, not, cond, ℕ, zero, suc, ◌+◌, ◌*◌, ◌^◌, ◌<◌, T, ltb, get_or}
use Rattle.std.proofs.Common.{add-zero, zero-add, add-suc, suc-add, le_of_suc-le-suc, not-suc-le-zero}
use Rattle.std.specs.Float.{nan, inf, Format, binary32}
use Rattle.std.specs.Float.Ieee.{prec, emax, low, odd, units, fits, is_nan}
use Rattle.std.specs.Float.Ieee.Fits.{round_is, round-fits}
use Rattle.tables.specs.Quantizer.{level, levels_from, levels}

levels_from-at : (L n k i : ℕ) → i < n → get_or (levels_from L n k) i nan ≡ level L (k + i)
unfolding levels_from
levels_from-at L zero k i h = absurd (not-suc-le-zero h)
levels_from-at L (suc n) k zero h = rw (add-zero k)
levels_from-at L (suc n) k (suc i) h = rw (add-suc k i, ← suc-add k i) (levels_from-at L n (suc k) i (le_of_suc-le-suc h))

-- an element of the list of levels is the level of its code
pub levels-at : (L k : ℕ) → k < L → get_or (levels L) k nan ≡ level L k
unfolding levels
levels-at L k h = rw (zero-add k) at (levels_from-at L L 0 k h)

-- a level is an f32, and a number
pub level-fits : (L k : ℕ) → T (fits binary32 (level L k))
unfolding level
level-fits L k = round-fits binary32 _ _ L

odd-not-nan : (d : ℕ) (s : Bool) (q k l : ℕ) → T (not (is_nan (odd d s q k l)))
unfolding odd is_nan
odd-not-nan d s zero k l = tt
odd-not-nan d s (suc q) k l = tt

units-not-nan : (f : Format) (s : Bool) (q k : ℕ) → T (not (is_nan (units f s q k)))
unfolding units is_nan
units-not-nan f s q k = go (ltb (q * 2 ^ k) (2 ^ (low f + suc (emax f))))
  where
    go : (b : Bool) → T (not (is_nan (cond b (odd (suc (prec f)) s q k (low f)) (inf s))))
    go true = odd-not-nan (suc (prec f)) s q k (low f)
    go false = tt

pub level-not-nan : (L k : ℕ) → T (not (is_nan (level L k)))
unfolding level
level-not-nan L k = rw round_is (units-not-nan binary32 _ _ _)
