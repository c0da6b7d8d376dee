-- A/52 7.2.2.5: the masking curve of a band, from its excitation, its power, dbknee and the hearing threshold.
use Rattle.std.specs.Prelude.{ℕ, ◌-◌, ◌/◌, cond, ltb, ℤ, pos, ◌+ℤ◌}
use Rattle.tables.specs.Entry.{entry, row}
use Rattle.tables.specs.Masking.{hth}
use Rattle.excitation.specs.Signed.{int_max}

-- where bndpsd[band] < dbknee: excite[band] += (dbknee - bndpsd[band]) >> 2
unfoldable pub raised : ℤ → ℕ → ℕ → ℤ
raised excite bndpsd dbknee = cond (ltb bndpsd dbknee) (excite +ℤ pos ((dbknee - bndpsd) / 4)) excite

-- mask[band] = max (excite[band], hth[fscod][band])
unfoldable pub masking_curve : ℤ → ℕ → ℕ → ℕ → ℕ → ℤ
masking_curve excite bndpsd dbknee fscod band = int_max (raised excite bndpsd dbknee) (pos (entry (row hth fscod) band))
