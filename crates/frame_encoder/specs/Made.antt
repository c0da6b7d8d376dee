-- What the functions of this crate ask of each other, from the coefficients of a part to the frame that is stored.
use Rattle.std.specs.Prelude.{ℕ, ◌*◌, ◌≤◌, ◌<◌, true, List, ◌≡◌, Float, length, get_or}
use Rattle.sheet.specs.Settings.{channels}
use Rattle.sheet.specs.declared.settings.Settings.{Settings}
use Rattle.frame.specs.Legal.{exps_legal, LegalFrame}
use Rattle.frame.specs.Body.{baps_of}
use Rattle.frame.specs.Layout.{cleaned}
use Rattle.frame_runs.specs.Finite.{finite_part}

-- buffers of so many exponents, baps and codes have one for each bin of the sheet's frames
pub record Buffers (settings : Settings) (exps bap codes : ℕ) : Type 0 where
  pub exps-long : exps ≡ 256 * channels settings * 6
  pub bap-long : bap ≡ 256 * channels settings * 6
  pub codes-long : codes ≡ 256 * channels settings * 6

-- coefficients that can be coded: each is finite, with an exponent of at most 24 and a bap of at most 15
pub record Codable (xs : List Float) (exps bap : List ℕ) : Type 0 where
  pub all-finite : finite_part xs ≡ true
  pub exps-long : length exps ≡ length xs
  pub bap-long : length bap ≡ length xs
  pub low : (i : ℕ) → i < length xs → get_or exps i 0 ≤ 24
  pub fit : (i : ℕ) → get_or bap i 0 ≤ 15

-- the legal exponents of a frame and their allocation
pub record Allocated (settings : Settings) (exps bap : List ℕ) : Type 0 where
  pub whole : length exps ≡ 256 * channels settings * 6
  pub legal : exps_legal settings exps ≡ true
  pub is : bap ≡ baps_of settings exps

-- a frame as it is worked out in local arrays before it is stored: legal, with its allocation, and its codes 0 from each end on
pub record Made (settings : Settings) (exps bap codes : List ℕ) : Type 0 where
  pub long : Buffers settings (length exps) (length bap) (length codes)
  pub legal : LegalFrame settings exps codes
  pub clean : cleaned settings codes ≡ codes
  pub is : bap ≡ baps_of settings exps
