-- What the functions of `write_body` are handed once the lengths were tested.
use Rattle.std.specs.Prelude.{ℕ, ◌*◌, ◌≡◌, List, length}
use Rattle.sheet.specs.Settings.{channels}
use Rattle.sheet.specs.declared.settings.Settings.{Settings}

-- exponents and codes of six rows each
pub record Sized (settings : Settings) (exps codes : List ℕ) : Type 0 where
  pub exps-long : length exps ≡ 256 * channels settings * 6
  pub codes-long : length codes ≡ 256 * channels settings * 6
