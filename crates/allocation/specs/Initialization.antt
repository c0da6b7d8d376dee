-- A/52 7.2.2.1: the parameters of a channel's allocation, from the codes of the sheet's common part and of the channel's record.
use Rattle.std.specs.Prelude.{ℕ, ℤ, pos, ◌+ℤ◌, ◌-ℤ◌, ◌*ℤ◌}
use Rattle.tables.specs.Entry.{entry}
use Rattle.tables.specs.Parameters.{slowdec, fastdec, slowgain, dbpbtab, floortab, fastgain, signed16}
use Rattle.sheet.specs.declared.common_part.Common.{Common}
use Rattle.sheet.specs.declared.record.ChannelCodes.{ChannelCodes}
use Rattle.excitation.specs.declared.excitation.LeakParameters.{LeakParameters}

-- sdecay = slowdec[sdcycod], fdecay = fastdec[fdcycod], sgain = slowgain[sgaincod], fgain = fastgain[fgaincod]
unfoldable pub leak_of : Common → ChannelCodes → LeakParameters
leak_of common channel =
    record {
      sdecay = entry slowdec common.sdcycod;
      fdecay = entry fastdec common.fdcycod;
      sgain = entry slowgain common.sgaincod;
      fgain = entry fastgain channel.fgaincod;
    }

-- dbknee = dbpbtab[dbpbcod]
unfoldable pub dbknee_of : Common → ℕ
dbknee_of common = entry dbpbtab common.dbpbcod

-- floor = floortab[floorcod]
unfoldable pub floor_of : Common → ℤ
floor_of common = signed16 (entry floortab common.floorcod)

-- snroffset = (((csnroffst - 15) << 4) + fsnroffst) << 2
unfoldable pub snroffset : ℕ → ℕ → ℤ
snroffset csnroffst fsnroffst = ((pos csnroffst -ℤ pos 15) *ℤ pos 16 +ℤ pos fsnroffst) *ℤ pos 4

unfoldable pub snroffset_of : Common → ChannelCodes → ℤ
snroffset_of common channel = snroffset common.csnroffst channel.fsnroffst
