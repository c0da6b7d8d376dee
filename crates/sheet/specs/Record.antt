-- A channel's record, document 01, "The track sheet": where each value stands among its bytes, and the record by value.
-- A record as its bytes is r, a sheet is s.
use Rattle.std.specs.Prelude.{ℕ, ◌+◌, ◌*◌, List, [], ◌∷◌, cond, get_or, take, eqb}
use Rattle.elements.specs.declared.segment.Segment.{Segment}
use Rattle.elements.specs.declared.set.BlockSet.{BlockSet}
use Rattle.elements.specs.declared.set.ExponentSet.{ExponentSet}
use Rattle.elements.specs.declared.set.ExponentSet.TheVariants.{Reuse, New}
use Rattle.elements.specs.declared.strategy.Strategy.TheVariants.{D15, D25, D45}
use Rattle.sheet.specs.Grammar.{nseg_of, records_of}
use Rattle.sheet.specs.declared.record.ChannelCodes.{ChannelCodes}
use Rattle.sheet.specs.declared.record.ChannelRecord.{ChannelRecord}

-- ---- the bytes of a record: channel, end, six strategies, fsnroffst, fgaincod, nseg, then nseg times offst, len, ba

abbrev pub channel_of : List ℕ → ℕ
channel_of r = get_or r 0 0

abbrev pub end_of : List ℕ → ℕ
end_of r = get_or r 1 0

abbrev pub strategy_of : List ℕ → ℕ → ℕ
strategy_of r block = get_or r (2 + block) 0

abbrev pub fsnroffst_of : List ℕ → ℕ
fsnroffst_of r = get_or r 8 0

abbrev pub fgaincod_of : List ℕ → ℕ
fgaincod_of r = get_or r 9 0

-- nseg is byte 10 (specs/Grammar); offst, len and ba of the first segment are these, those of the next stand three bytes on
abbrev pub offst_at : ℕ
offst_at = 11

abbrev pub len_at : ℕ
len_at = 12

abbrev pub ba_at : ℕ
ba_at = 13

-- one of these three values of segment i
abbrev pub segment_value : List ℕ → ℕ → ℕ → ℕ
segment_value r first i = get_or r (first + 3 * i) 0

-- ---- "for every block either reuse or a new set with its span: 0 reuse, 1 D15 (span 1), 2 D25 (span 2), 3 D45 (span 4)"

-- the set that a strategy's number names; another number does not pass the ranges
abbrev pub set_of : ℕ → ExponentSet
set_of x = cond (eqb x 0) Reuse (cond (eqb x 1) (New D15) (cond (eqb x 2) (New D25) (New D45)))

-- ---- a record by value

-- f 0, f 1, .. f 5, and f 0, f 1, .. f 7
abbrev pub six_of : {A : Type 0} → (ℕ → A) → List A
six_of f = f 0 ∷ f 1 ∷ f 2 ∷ f 3 ∷ f 4 ∷ f 5 ∷ []

abbrev pub eight_of : {A : Type 0} → (ℕ → A) → List A
eight_of f = f 0 ∷ f 1 ∷ f 2 ∷ f 3 ∷ f 4 ∷ f 5 ∷ f 6 ∷ f 7 ∷ []

-- the sets of the six blocks
abbrev pub block_set : ℕ → BlockSet
block_set x = record { set = set_of x }

abbrev pub blocks_of : List ℕ → List BlockSet
blocks_of r = six_of (λ block. block_set (strategy_of r block))

-- a segment that is not there
abbrev pub no_segment : Segment
no_segment = record { offst = 0; len = 0; ba = 0 }

-- segment i, all 0 where it is not there
abbrev pub segment_at : List ℕ → ℕ → Segment
segment_at r i = record { offst = segment_value r offst_at i; len = segment_value r len_at i; ba = segment_value r ba_at i }

abbrev pub eight_segments : List ℕ → List Segment
eight_segments r = eight_of (segment_at r)

-- what the allocation takes of it
abbrev pub record_codes : List ℕ → ChannelCodes
record_codes r = record { fsnroffst = fsnroffst_of r; fgaincod = fgaincod_of r; nseg = nseg_of r; segments = eight_segments r }

abbrev pub channel_record : List ℕ → ChannelRecord
channel_record r = record { channel = channel_of r; end = end_of r; blocks = blocks_of r; codes = record_codes r }

-- those that the record says that it has
abbrev pub segments_of : ChannelCodes → List Segment
segments_of v = take v.nseg v.segments

-- ---- the record of a channel: one for each, in ascending channel number (document 02, W1), so that of channel c has c before it

-- its bytes, none where there is none
abbrev pub record_bytes : List ℕ → ℕ → List ℕ
record_bytes s c = get_or (records_of s) c []

abbrev pub record_of : List ℕ → ℕ → ChannelRecord
record_of s c = channel_record (record_bytes s c)
