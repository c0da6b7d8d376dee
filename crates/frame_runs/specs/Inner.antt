-- What the functions that work out a frame's exponents ask of its coefficients.
use Rattle.std.specs.Prelude.{◌*◌, true, List, ◌≡◌, Float, length}
use Rattle.sheet.specs.Settings.{channels}
use Rattle.sheet.specs.declared.settings.Settings.{Settings}
use Rattle.frame_runs.specs.Finite.{all_finite}

-- the coefficients of a whole frame, all of them finite below the ends
pub record Encodable (settings : Settings) (coeffs : List Float) : Type 0 where
  pub whole : length coeffs ≡ 256 * channels settings * 6
  pub finite : all_finite settings coeffs ≡ true
