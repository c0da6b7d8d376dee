-- The common part of a track sheet, the values that hold for all channels: document 01, "The track sheet", bytes 3 to 11.
use Rattle.std.specs.Prelude.{ℕ, ◌+◌, List, Bool, ◌&&◌, get_or, leb}
use Rattle.sheet.specs.declared.common_part.Common.{Common}

-- in the order of the paper; nfchans, as in A/52, is its "number of full-bandwidth channels n"
abbrev pub common_of : List ℕ → Common
common_of s =
    record {
      fscod = get_or s 3 0;
      nfchans = get_or s 4 0;
      lfe = get_or s 5 0;
      sdcycod = get_or s 6 0;
      fdcycod = get_or s 7 0;
      sgaincod = get_or s 8 0;
      dbpbcod = get_or s 9 0;
      floorcod = get_or s 10 0;
      csnroffst = get_or s 11 0;
    }

-- "C is the number of channels": the full-bandwidth ones, and the LFE where there is one
abbrev pub channels_of : Common → ℕ
channels_of c = c.nfchans + c.lfe

-- "fscod 0..2, number of full-bandwidth channels n 1..5, lfe 0..1, sdcycod, fdcycod, sgaincod, dbpbcod (each 0..3), floorcod 0..7, csnroffst 0..63"
abbrev pub common_in_range : Common → Bool
common_in_range c =
    leb c.fscod 2
    && leb 1 c.nfchans
    && leb c.nfchans 5
    && leb c.lfe 1
    && leb c.sdcycod 3
    && leb c.fdcycod 3
    && leb c.sgaincod 3
    && leb c.dbpbcod 3
    && leb c.floorcod 7
    && leb c.csnroffst 63
