-- bap 1 to 5 (A/52 7.3.3, Tables 7.19 to 7.23; document 01, "Mantissas"): "nearest f32 level by rounded f32 distance, lower index on a tie".
-- One rule over the list of levels, whatever their number; that it gives the nearest and the lowest is shown in SymmetricLaws.antt.
use Rattle.std.specs.Prelude.{false, cond, List, [], ◌∷◌, ℕ, suc, Float}
use Rattle.std.specs.Float.{inf, binary32}
use Rattle.std.specs.Float.Ieee.{sub, neg, lt}
use Rattle.quantiser.specs.Scale.{zero32}

-- |m - level|, the difference rounded to an f32
unfoldable pub distance : Float → Float → Float
distance m level = let d = sub binary32 m level in cond (lt d zero32) (neg d) d

-- the nearest of the levels that are left, the first of which has the index i, where the best so far is `best` at the distance d
unfoldable pub nearest_from : Float → List Float → ℕ → ℕ → Float → ℕ
unfolding distance
nearest_from m [] i best d = best
nearest_from m (v ∷ vs) i best d =
    let e = distance m v in
    let nearer = lt e d in
    nearest_from m vs (suc i) (cond nearer i best) (cond nearer e d)

-- the index of the nearest level: the first is nearer than nothing, and a later one only where it is strictly nearer
unfoldable pub nearest_of : Float → List Float → ℕ
unfolding nearest_from
nearest_of m table = nearest_from m table 0 0 (inf false)
