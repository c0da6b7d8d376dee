-- A/52 7.2.2.7: the bit allocation pointer of a bin, from its psd, the mask of its band, the offset and the floor.
use Rattle.std.specs.Prelude.{ℕ, min, cond, ◌&&◌, List, leb, ltb, ℤ, pos, ◌+ℤ◌, ◌-ℤ◌, get_or}
use Rattle.std.specs.Int.Bits.{bit_and}
use Rattle.std.specs.Int.Signed.{shr_z}
use Rattle.tables.specs.Bands.{masktab}
use Rattle.tables.specs.Entry.{entry}
use Rattle.tables.specs.Quantizer.{baptab}
use Rattle.excitation.specs.Psd.{psd}
use Rattle.excitation.specs.Signed.{hold}

-- mask -= snroffset; mask -= floor; if (mask < 0) mask = 0; mask &= 0x1fe0; mask += floor
unfoldable pub lowered : ℤ → ℤ → ℤ → ℤ
lowered mask snroffset floor = pos (bit_and (hold (mask -ℤ snroffset -ℤ floor)) 0x1fe0) +ℤ floor

-- address = (psd - mask) >> 5, held to 0 .. 63; `shr_z z 32` is z >> 5, which is z / 32 rounded down
unfoldable pub address : ℕ → ℤ → ℕ
address power mask = min (hold (shr_z (pos power -ℤ mask) 32)) 63

-- bap[bin] = baptab[address] of a channel whose bins first .. end - 1 are coded, with the mask of the bin's band; 0 at any other bin
unfoldable pub bap_of : (ℕ → ℤ) → ℤ → ℤ → ℕ → ℕ → List ℕ → ℕ → ℕ
bap_of mask snroffset floor first end exp bin =
    cond (leb first bin && ltb bin end)
    (entry baptab (address (psd (get_or exp bin 0)) (lowered (mask (entry masktab bin)) snroffset floor)))
    0
