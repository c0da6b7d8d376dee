-- What a sheet sets, wherever its records stand: document 01, "The track sheet", and document 02, W1. By value they are a `Settings`
-- (sheet/src/settings.rt): the common part, and the values of each channel's record.
use Rattle.std.specs.Prelude.{ℕ, List, [], get_or}
use Rattle.elements.specs.declared.set.BlockSet.{BlockSet}
use Rattle.elements.specs.declared.set.ExponentSet.{ExponentSet}
use Rattle.elements.specs.declared.set.ExponentSet.TheVariants.{Reuse}
use Rattle.sheet.specs.declared.record.ChannelRecord.{ChannelRecord}
use Rattle.sheet.specs.declared.settings.Settings.{Settings}
use Rattle.sheet.specs.Grammar.{records_of}
use Rattle.sheet.specs.Common.{common_of, channels_of}
use Rattle.sheet.specs.Record.{six_of, channel_record}
use Rattle.sheet.specs.Ranges.{of_channel}

-- ---- of a sheet's bytes

-- the record that has the number of channel c, at whatever place; none where there is none
abbrev pub record_numbered : List ℕ → ℕ → List ℕ
record_numbered s c = get_or (of_channel c (records_of s)) 0 []

-- the records of the six channels that a sheet can have
unfoldable pub settings_of : List ℕ → Settings
settings_of s = record { common = common_of s; records = six_of (λ c. channel_record (record_numbered s c)) }

-- ---- what they say of a frame

-- C, the number of channels of the buffers: those that have a record
unfoldable pub channels : Settings → ℕ
channels settings = channels_of settings.common

-- past the records that settings have
abbrev pub no_record : ChannelRecord
no_record = record { channel = 0; end = 0; blocks = []; codes = record { fsnroffst = 0; fgaincod = 0; nseg = 0; segments = [] } }

-- the record of channel c
unfoldable pub record_at : Settings → ℕ → ChannelRecord
record_at settings c = get_or settings.records c no_record

-- where the bins of channel c end
unfoldable pub end_at : Settings → ℕ → ℕ
end_at settings c = (record_at settings c).end

-- ---- "the strategies of six blocks by six channels are fixed tables": channel by block; reuse for a channel that is not there

unfoldable pub strategies_of : Settings → List (List BlockSet)
strategies_of settings = six_of (λ c. (record_at settings c).blocks)

-- the set of a channel's block in such a table
abbrev pub set_in : List (List BlockSet) → ℕ → ℕ → ExponentSet
set_in table c block = (get_or (get_or table c []) block (record { set = Reuse })).set

-- what block b of channel c has: "either reuse or a new set with its span"
unfoldable pub set_at : Settings → ℕ → ℕ → ExponentSet
set_at settings b c = set_in (strategies_of settings) c b
