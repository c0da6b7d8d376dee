-- What the inner functions take and give: a mantissa as a sign and two whole numbers, bins and blocks that can be reconstructed.
use Rattle.std.specs.Prelude.{ℕ, ◌+◌, ◌-◌, ◌*◌, ◌/◌, ◌≤◌, ◌<◌, not, cond, List, ◌≡◌, ltb, Float, length, get_or}
use Rattle.std.specs.Float.{binary32}
use Rattle.std.specs.Float.Ieee.{round}
use Rattle.mantissas.specs.Inner.{Coded}
use Rattle.sheet.specs.Settings.{channels}
use Rattle.sheet.specs.declared.settings.Settings.{Settings}
use Rattle.frame.specs.Body.{bap_row}
use Rattle.frame.specs.Layout.{clean_row}
use Rattle.frame_rows.specs.Inner.{LowRow}
use Rattle.reconstruct.specs.declared.values.Fraction.{Fraction}

-- a fraction as an f32
unfoldable pub value_of : Fraction → Float
value_of f = round binary32 f.negative f.size f.over

-- a code among L symmetric levels: (2k - (L - 1)) / L
abbrev pub symmetric_of : ℕ → ℕ → Fraction
symmetric_of L k = record { negative = ltb (2 * k) (L - 1); size = (2 * k - (L - 1)) + (L - 1 - 2 * k); over = L }

-- a code among L in two's complement: the signed code over L / 2
abbrev pub asymmetric_of : ℕ → ℕ → Fraction
asymmetric_of L k = record { negative = not (ltb k (L / 2)); size = cond (ltb k (L / 2)) k (L - k); over = L / 2 }

-- four buffers of so many entries have one for each bin of the sheet's frames
pub record Whole (settings : Settings) (exps codes flags levels : ℕ) : Type 0 where
  pub exps-long : exps ≡ 256 * channels settings * 6
  pub codes-long : codes ≡ 256 * channels settings * 6
  pub flags_long : flags ≡ 256 * channels settings * 6
  pub levels-long : levels ≡ 256 * channels settings * 6

-- bins that can be reconstructed: no exponent above 24, and each code is one of its bap's
pub record LegalBins (exps bap codes : List ℕ) : Type 0 where
  pub bap-long : length bap ≡ length exps
  pub codes-long : length codes ≡ length exps
  pub low : (i : ℕ) → i < length exps → get_or exps i 0 ≤ 24
  pub coded : Coded bap codes

-- a block of a legal frame, with its allocation
pub record LegalRow (settings : Settings) (exps bap codes : List ℕ) : Type 0 where
  pub exps-long : length exps ≡ 256 * channels settings
  pub codes-long : length codes ≡ 256 * channels settings
  pub low : LowRow settings exps
  pub is : bap ≡ bap_row settings exps
  pub coded : Coded (bap_row settings exps) (clean_row settings codes)
