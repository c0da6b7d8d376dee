-- The allocation as the code has it, not as A/52 7.2.2.1 and 7.2.2.7 write it: natural numbers, with the floor and what the mask is lowered to
-- 2048 up and the offset 960 up, so that none is negative. specs/HeldLaws.antt shows that the forms are A/52's.
use Rattle.std.specs.Prelude.{ℕ, suc, ◌+◌, ◌-◌, ◌*◌, ◌/◌, ◌%◌, min, ◌≤◌, ◌<◌, cond, List, ◌++◌, ◌≡◌, ltb, length, get_or, replicate}
use Rattle.std.specs.Int.Bits.{bit_and}
use Rattle.tables.specs.Bands.{masktab}
use Rattle.tables.specs.Entry.{entry, row}
use Rattle.tables.specs.Masking.{hth}
use Rattle.tables.specs.Parameters.{floortab}
use Rattle.tables.specs.Quantizer.{baptab}
use Rattle.elements.specs.declared.segment.Segment.{Segment}
use Rattle.sheet.specs.Ranges.{lfe_end}
use Rattle.sheet.specs.Record.{segments_of}
use Rattle.sheet.specs.declared.common_part.Common.{Common}
use Rattle.sheet.specs.declared.record.ChannelCodes.{ChannelCodes}
use Rattle.excitation.specs.Psd.{psd}
use Rattle.excitation.specs.BandPsd.{bndpsd}
use Rattle.excitation.specs.Held.{after}
use Rattle.masking.specs.Held.{held_curve, held_deltas}
use Rattle.allocation.specs.Initialization.{leak_of, dbknee_of}
use Rattle.allocation.specs.declared.initialization.Parameters.{Parameters}

-- the floor of a pattern of 16 bits, 2048 up: the least, 0xf800, is -2048
unfoldable pub held_floor : ℕ → ℕ
held_floor pattern = (pattern + 2048) % 65536

-- the offset, 960 up: the least, of csnroffst 0 and fsnroffst 0, is -960
unfoldable pub held_offset : ℕ → ℕ → ℕ
held_offset csnroffst fsnroffst = 64 * csnroffst + 4 * fsnroffst

-- all parameters of 7.2.2.1
unfoldable pub parameters_of : Common → ChannelCodes → Parameters
parameters_of common channel =
    record {
      leak = leak_of common channel;
      dbknee = dbknee_of common;
      floor = held_floor (entry floortab common.floorcod);
      snroffset = held_offset common.csnroffst channel.fsnroffst;
    }

-- `lowered` of Bap.antt, 2048 up
unfoldable pub held_lowered : ℕ → ℕ → ℕ → ℕ
held_lowered mask snroffset floor = bit_and (mask + 3008 - (snroffset + floor)) 0x1fe0 + floor

-- the address, by what the mask was lowered to
unfoldable pub held_address : ℕ → ℕ → ℕ
held_address power level = min ((power + 2048 - level) / 32) 63

-- the bap of a bin by its exponent, where its band's mask was lowered to a level
unfoldable pub held_bap : ℕ → ℕ → ℕ
held_bap level exponent = entry baptab (held_address (psd exponent) level)

-- what a band's mask is lowered to, from its excitation, its power, its threshold and its delta
unfoldable pub held_level : Parameters → ℕ → ℕ → ℕ → ℕ → ℕ
held_level p excite power threshold added = held_lowered (held_curve excite power p.dbknee threshold + added - 512) p.snroffset p.floor

-- ---- the window

-- BAPTAB as a window: entry 111 + address, with 0 before address 0 and 15 behind address 63,
-- so that an address that is held to 0 .. 63 is read without holding it
unfoldable pub window : List ℕ
window = replicate 111 0 ++ (baptab ++ replicate 97 15)

-- where a bin with exponent 0 of a band stands in the window; one with exponent e stands 4 e before it. `lower` is what the mask is lowered by,
-- `top` the address where nothing is left of it
unfoldable pub base_of : ℕ → ℕ → ℕ → ℕ → ℕ → ℕ → ℕ → ℕ
base_of dbknee lower top excite power threshold added =
    111 + (top - bit_and (held_curve excite power dbknee threshold + added + 2496 - lower) 0x1fe0 / 32)

-- by the parameters
unfoldable pub held_base : Parameters → ℕ → ℕ → ℕ → ℕ → ℕ
held_base p = base_of p.dbknee (p.snroffset + p.floor) ((5120 - p.floor) / 32)

-- and by the arrays of the bands
unfoldable pub base_by : Parameters → List ℕ → List ℕ → List ℕ → List ℕ → ℕ → ℕ
base_by p powers excites added thresholds band = held_base p (get_or excites band 0) (get_or powers band 0) (get_or thresholds band 0) (get_or added band 0)

-- the bap of a bin by the bases of the bands
unfoldable pub bap_from : List ℕ → List ℕ → ℕ → ℕ
bap_from bases exp bin = get_or window (get_or bases (entry masktab bin) 0 - 4 * get_or exp bin 0) 0

-- ---- the whole

-- the bap of a bin by the arrays of its bands
unfoldable pub bap_by : Parameters → List ℕ → List ℕ → List ℕ → List ℕ → List ℕ → ℕ → ℕ
bap_by p powers excites added thresholds exp bin =
    let band = entry masktab bin in
    held_bap (held_level p (get_or excites band 0) (get_or powers band 0) (get_or thresholds band 0) (get_or added band 0)) (get_or exp bin 0)

-- the level of a band of a channel with bins 0 .. end - 1, from its parameters, its thresholds and its segments
unfoldable pub level_at : Parameters → List ℕ → List Segment → ℕ → List ℕ → ℕ → ℕ
level_at p thresholds segments end exp band =
    held_level p (after p.leak (lfe_end end) (bndpsd exp 0 end) (suc band)).excite (bndpsd exp 0 end band) (entry thresholds band)
    (held_deltas segments band)

-- the bap of a bin below end
unfoldable pub bap_at : Parameters → List ℕ → List Segment → ℕ → List ℕ → ℕ → ℕ
bap_at p thresholds segments end exp bin = held_bap (level_at p thresholds segments end exp (entry masktab bin)) (get_or exp bin 0)

-- with the values of a sheet
unfoldable pub held_below : Common → ChannelCodes → ℕ → List ℕ → ℕ → ℕ
held_below common channel end exp =
    bap_at (parameters_of common channel) (row hth common.fscod) (segments_of channel) end exp

-- and of any bin
unfoldable pub held_bin : Common → ChannelCodes → ℕ → List ℕ → ℕ → ℕ
held_bin common channel end exp bin = cond (ltb bin end) (held_below common channel end exp bin) 0

-- ---- what the code needs of the numbers it is given

-- parameters that its sums can take
abbrev pub Small : Parameters → Type 0
Small p = (p.dbknee ≤ 8191) × (p.snroffset ≤ 17340) × (p.floor ≤ 5120)

-- the arrays of the bands: an entry for each band, and one more for the psds; excitations, deltas and thresholds that its sums can take, and
-- thresholds that no delta makes negative
abbrev pub BandArrays : List ℕ → List ℕ → List ℕ → List ℕ → Type 0
BandArrays powers excites added thresholds =
    (length powers ≡ 51) × (length excites ≡ 50) × (length added ≡ 50) × (length thresholds ≡ 50)
    × ((k : ℕ) → get_or excites k 0 ≤ 8191)
    × ((k : ℕ) → get_or added k 0 ≤ 32768)
    × ((k : ℕ) → get_or thresholds k 0 ≤ 8191)
    × ((k : ℕ) → k < 50 → 512 ≤ get_or thresholds k 0)

-- the bases of the bands: an entry for each band, from which no exponent leaves the window
abbrev pub BandBases : List ℕ → Type 0
BandBases bases = (length bases ≡ 50) × ((k : ℕ) → k < 50 → 111 ≤ get_or bases k 0) × ((k : ℕ) → get_or bases k 0 ≤ 271)
