-- Which coefficients a frame may have (document 01, "When a call is turned back", cause 3: "coefficient below end not finite"). Those from
-- an end on are ignored.
use Rattle.std.specs.Prelude.{ℕ, Bool, true, ◌&&◌, List, [], ◌∷◌, Float}
use Rattle.std.specs.Float.Ieee.Scale.{finite}
use Rattle.sheet.specs.Ranges.{all_below}
use Rattle.sheet.specs.Settings.{channels}
use Rattle.sheet.specs.declared.settings.Settings.{Settings}
use Rattle.frame.specs.Layout.{below_end}

-- each of these is finite
unfoldable pub finite_part : List Float → Bool
finite_part [] = true
finite_part (x ∷ xs) = finite x && finite_part xs

-- each one of block b below its channel's end
unfoldable pub finite_row : Settings → List Float → ℕ → Bool
finite_row settings coeffs b = all_below (channels settings) (λ c. finite_part (below_end settings b c coeffs))

-- each one of the six blocks; else cause 3
unfoldable pub all_finite : Settings → List Float → Bool
all_finite settings coeffs = all_below 6 (finite_row settings coeffs)
