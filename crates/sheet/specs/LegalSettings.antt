-- What holds of each value of settings, whatever bytes they come from: those of an accepted sheet are such (SettingsLaws.antt, `settings-legal`).
use Rattle.std.specs.Prelude.{ℕ, ◌≤◌, ◌<◌, ◌≡◌}
use Rattle.elements.specs.declared.set.ExponentSet.TheVariants.{Reuse}
use Rattle.sheet.specs.declared.settings.Settings.{Settings}
use Rattle.sheet.specs.Common.{channels_of}
use Rattle.sheet.specs.Legal.{LegalCommon, LegalRecord}
use Rattle.sheet.specs.Sizes.{most_channels}
use Rattle.sheet.specs.Settings.{channels, record_at, end_at, set_at}

pub record LegalSettings (settings : Settings) : Type 0 where
  pub common : LegalCommon settings.common
  pub record-at : (c : ℕ) → c < channels_of settings.common → LegalRecord settings.common c (record_at settings c)
  -- block 0 is never reuse
  pub first : (c : ℕ) → c < channels_of settings.common → set_at settings 0 c ≡ Reuse → ⊥

-- ---- what the code holds of legal settings, with its bounds

-- r is the number of channels
pub record ChannelCount (settings : Settings) (r : ℕ) : Type 0 where
  pub is : r ≡ channels settings
  pub least : 1 ≤ r
  pub most : r ≤ most_channels

-- r is the end of channel c
pub record ChannelEnd (settings : Settings) (c r : ℕ) : Type 0 where
  pub is : r ≡ end_at settings c
  pub least : 7 ≤ r
  pub most : r ≤ 253
