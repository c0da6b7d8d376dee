-- Lists that a loop fills from the front, as the code of this crate and of those above it fills its arrays of bands.
use Rattle.std.specs.Prelude.{ℕ, List, ◌++◌, drop}
use Rattle.bits.specs.Parts.{tab}

-- the list l with f 0, f 1, .. f (n - 1) in front
unfoldable pub front : (ℕ → ℕ) → ℕ → List ℕ → List ℕ
front f n l = tab n f ++ drop n l
