-- What the allocation of a block asks of its row.
use Rattle.std.specs.Prelude.{ℕ, ◌≤◌, ◌<◌, ◌≡◌, List, get_or}
use Rattle.bits.specs.Parts.{piece}
use Rattle.elements.specs.declared.set.ExponentSet.{ExponentSet}
use Rattle.elements.specs.declared.set.ExponentSet.TheVariants.{Reuse}
use Rattle.sheet.specs.Settings.{channels, end_at, set_at}
use Rattle.sheet.specs.declared.settings.Settings.{Settings}
use Rattle.frame.specs.Body.{bap_part}

-- below each end the exponents of a row are at most 24
pub record LowRow (settings : Settings) (row : List ℕ) : Type 0 where
  pub low : (c : ℕ) → c < channels settings → (bin : ℕ) → bin < end_at settings c → get_or (piece 256 c row) bin 0 ≤ 24

-- where block b is reuse, `bap` holds the allocation of that channel's exponents already, from the block before: that of a run is worked
-- out once
pub record KeptBap (settings : Settings) (b : ℕ) (row bap : List ℕ) : Type 0 where
  pub kept : (c : ℕ) → c < channels settings → set_at settings b c ≡ Reuse → piece 256 c bap ≡ bap_part settings c (piece 256 c row)

-- the same of one channel's part
pub record PartReady (settings : Settings) (c : ℕ) (set : ExponentSet) (part bap : List ℕ) : Type 0 where
  pub there : c < channels settings
  pub low : (bin : ℕ) → bin < end_at settings c → get_or part bin 0 ≤ 24
  pub kept : set ≡ Reuse → bap ≡ bap_part settings c part
