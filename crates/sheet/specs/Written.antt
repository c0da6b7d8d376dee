-- A sheet written out from its settings, as documents 01, "The track sheet", and 02, W1, lay it out.
use Rattle.std.specs.Prelude.{ℕ, ◌/◌, ◌%◌, length, get_or, take}
use mathlib.Core.List.{List, [], ◌∷◌, ◌++◌, map, flatten}
use Rattle.bits.specs.Parts.{joined}
use Rattle.elements.specs.Strategy.{code_of_set}
use Rattle.elements.specs.declared.set.ExponentSet.TheVariants.{Reuse}
use Rattle.sheet.specs.declared.record.ChannelRecord.{ChannelRecord}
use Rattle.sheet.specs.Record.{six_of, no_segment}
use Rattle.sheet.specs.declared.settings.Settings.{Settings}
use Rattle.sheet.specs.Common.{channels_of}

unfoldable pub strategy_written : ChannelRecord → ℕ → ℕ
strategy_written v block = code_of_set (get_or v.blocks block (record { set = Reuse })).set

-- offst, len and ba of segment i
unfoldable pub segment_written : ChannelRecord → ℕ → List ℕ
segment_written v i = let s = get_or v.codes.segments i no_segment in s.offst ∷ s.len ∷ s.ba ∷ []

unfoldable pub record_written : ChannelRecord → List ℕ
record_written v =
    v.channel ∷ v.end ∷ six_of (strategy_written v) ++ (v.codes.fsnroffst ∷ v.codes.fgaincod ∷ v.codes.nseg ∷ joined v.codes.nseg (segment_written v))

-- what follows the length: version 1, the common part, the records
unfoldable pub rest_written : Settings → List ℕ
rest_written w =
    let c = w.common in
    1 ∷ c.fscod ∷ c.nfchans ∷ c.lfe ∷ c.sdcycod ∷ c.fdcycod ∷ c.sgaincod ∷ c.dbpbcod ∷ c.floorcod ∷ c.csnroffst ∷ flatten (map record_written (take (channels_of c) w.records))

unfoldable pub sheet_written : Settings → List ℕ
sheet_written w = length (rest_written w) / 256 ∷ length (rest_written w) % 256 ∷ rest_written w
