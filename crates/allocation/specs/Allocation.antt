-- The allocation of one channel (the Rust's `compute_bap`, A/52 7.2.2; document 01, "Allocation"), and what the call answers and leaves on every input
-- (document 01, "When a call is turned back": 2, 10, 4).
use Rattle.std.specs.Prelude.{ℕ, Bool, ◌&&◌, List, leb, ℤ, ◌+ℤ◌, length, take, Result, Ok}
use Rattle.std.specs.List.{list_all}
use Rattle.bits.specs.Parts.{tab}
use Rattle.bits.specs.Answer.{must, kept}
use Rattle.bits.specs.declared.refusal.Refusal.{Refusal}
use Rattle.bits.specs.declared.refusal.Refusal.TheVariants as refusal
use Rattle.elements.specs.declared.segment.Segment.{Segment}
use Rattle.sheet.specs.Ranges.{lfe_end, legal_end}
use Rattle.sheet.specs.Record.{segments_of}
use Rattle.sheet.specs.declared.common_part.Common.{Common}
use Rattle.sheet.specs.declared.record.ChannelCodes.{ChannelCodes}
use Rattle.excitation.specs.BandPsd.{bndpsd}
use Rattle.excitation.specs.Excitation.{excite}
use Rattle.masking.specs.Threshold.{masking_curve}
use Rattle.masking.specs.Delta.{deltas}
use Rattle.allocation.specs.Initialization.{leak_of, dbknee_of, floor_of, snroffset_of}
use Rattle.allocation.specs.Bap.{bap_of}

-- mask[band] after 7.2.2.5 and 7.2.2.6, of a channel with bins 0 .. end - 1; the LFE is the channel whose end is 7
unfoldable pub mask_of : Common → ChannelCodes → ℕ → List ℕ → ℕ → ℤ
mask_of common channel end exp band =
    masking_curve (excite (leak_of common channel) (lfe_end end) (bndpsd exp 0 end) band) (bndpsd exp 0 end band) (dbknee_of common) common.fscod band
    +ℤ deltas (segments_of channel) band

-- the bap of n bins, 0 from end on. The rule of A/52 7.2.2.1.1 for a frame whose offsets are all 0 is not applied, as document 01 has it
-- (docs/DIFFERENCES.md)
unfoldable pub allocated : Common → ChannelCodes → ℕ → List ℕ → ℕ → List ℕ
allocated common channel end exp n = tab n (bap_of (mask_of common channel end exp) (snroffset_of common channel) (floor_of common) 0 end exp)

-- the tests: 2, a code or the end is out of its range of document 01, "The track sheet" (a segment from nseg on is not looked at); 10, a slice
-- of the wrong length; 4, an exponent above 24. What they say, as bounds: Legal.antt
unfoldable pub segment_in_range : Segment → Bool
segment_in_range s = leb s.offst 31 && leb s.len 15 && leb s.ba 7

unfoldable pub common_codes : Common → Bool
common_codes common =
    leb common.fscod 2 && leb common.sdcycod 3 && leb common.fdcycod 3 && leb common.sgaincod 3 && leb common.dbpbcod 3
    && leb common.floorcod 7
    && leb common.csnroffst 63

unfoldable pub channel_codes : ChannelCodes → Bool
channel_codes channel =
    leb channel.nseg 8 && leb channel.fsnroffst 15 && leb channel.fgaincod 7
    && list_all segment_in_range (segments_of channel)

unfoldable pub in_range : Common → ChannelCodes → ℕ → Bool
in_range common channel end = common_codes common && channel_codes channel && legal_end end

-- slices of at most 256 entries that reach to end
unfoldable pub right_lengths : ℕ → ℕ → ℕ → Bool
right_lengths end entries size = leb entries 256 && leb size 256 && leb end entries && leb end size

unfoldable pub exponents_fit : List ℕ → ℕ → Bool
exponents_fit exp end = list_all (λ e. leb e 24) (take end exp)

-- the answer; size is the length of the slice for the bap
unfoldable pub answer_of : Common → ChannelCodes → ℕ → List ℕ → ℕ → Result Unit Refusal
answer_of common channel end exp size =
    must (in_range common channel end) refusal.OutOfRange
    (must (right_lengths end (length exp) size) refusal.WrongLength
    (must (exponents_fit exp end) refusal.BadExponent
    (Ok tt)))

-- what the call leaves in the slice: a refused one leaves it as it was
unfoldable pub left_in : Common → ChannelCodes → ℕ → List ℕ → List ℕ → List ℕ
left_in common channel end exp bap = kept (answer_of common channel end exp (length bap)) (allocated common channel end exp (length bap)) bap
