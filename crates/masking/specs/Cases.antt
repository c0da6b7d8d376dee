-- The starred cases of document 01, "Edges", that are deltas: ba 0, 3, 4, 7.
use Rattle.std.specs.Prelude.{[], ◌∷◌, map, ◌≡◌, refl, pos, neg_ℤ}
use Rattle.masking.specs.Delta.{delta}

pub delta-cases : map delta (0 ∷ 3 ∷ 4 ∷ 7 ∷ []) ≡ (neg_ℤ (pos 512) ∷ neg_ℤ (pos 128) ∷ pos 128 ∷ pos 512 ∷ [])
unfolding delta
delta-cases = refl
