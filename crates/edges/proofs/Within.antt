-- How long a bap's levels are, and an entry of them.
use mathlib.Core.List.{List}
use mathlib.Core.Path.{◌≡◌, refl, ap}
use Prim.Native.Nat.{ℕ, suc, zero, ◌<◌}
use lib.Ieee.{Float, nan}
use lib.ListN.{length, get_or}
use Rattle.tables.specs.Levels.{levels-at}
use Rattle.tables.specs.Quantizer.{level, levels, levels_from}

length-levels_from : (L n k : ℕ) → length (levels_from L n k) ≡ n
unfolding levels_from
length-levels_from L zero k = refl
length-levels_from L (suc n) k = ap suc (length-levels_from L n (suc k))

-- a table that is the levels of a bap has so many entries, and its entry is the level of the code
module _ (table : List Float) (L : ℕ) (e : table ≡ levels L) where
  pub levels-long : length table ≡ L
  unfolding levels
  levels-long = rw e (length-levels_from L L 0)

  pub level-read : (k : ℕ) → k < L → get_or table k nan ≡ level L k
  level-read k h = rw e (levels-at L k h)
