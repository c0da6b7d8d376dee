-- What the tests of Allocation.antt say, as bounds that the code and the laws use; AnswerLaws.antt shows that they say the same.
use Rattle.std.specs.Prelude.{ℕ, ◌≤◌, ◌<◌, true, List, All, ◌≡◌, length, get_or}
use Rattle.sheet.specs.Legal.{LegalSegment}
use Rattle.sheet.specs.Record.{segments_of}
use Rattle.sheet.specs.Ranges.{legal_end}
use Rattle.sheet.specs.declared.common_part.Common.{Common}
use Rattle.sheet.specs.declared.record.ChannelCodes.{ChannelCodes}

-- every code is in its range of document 01, "The track sheet"; a segment from nseg on is not looked at
pub record LegalCodes (common : Common) (channel : ChannelCodes) : Type 0 where
  pub fscod : common.fscod ≤ 2
  pub sdcycod : common.sdcycod ≤ 3
  pub fdcycod : common.fdcycod ≤ 3
  pub sgaincod : common.sgaincod ≤ 3
  pub dbpbcod : common.dbpbcod ≤ 3
  pub floorcod : common.floorcod ≤ 7
  pub csnroffst : common.csnroffst ≤ 63
  pub fsnroffst : channel.fsnroffst ≤ 15
  pub fgaincod : channel.fgaincod ≤ 7
  pub nseg : channel.nseg ≤ 8
  pub segments : All LegalSegment (segments_of channel)

-- the end is one that a sheet may hold, the exponents below it are at most 24, and both slices reach to it; size is the length of the one for the bap
pub record LegalBins (exp : List ℕ) (end size : ℕ) : Type 0 where
  pub legal : legal_end end ≡ true
  pub held : end ≤ length exp
  pub most : (bin : ℕ) → bin < end → get_or exp bin 0 ≤ 24
  pub room : end ≤ size
  pub short : size ≤ 256
