-- A/52 7.2.2.3: the powers of a band's bins, joined to the power of the band.
use Rattle.std.specs.Prelude.{ℕ, zero, suc, ◌+◌, ◌-◌, ◌/◌, min, max, List, get_or}
use Rattle.tables.specs.Bands.{bndtab, bndsz}
use Rattle.tables.specs.Entry.{entry}
use Rattle.tables.specs.Masking.{latab}
use Rattle.excitation.specs.Psd.{psd}

-- logadd (a, b): with c = a - b and address = min (|c| >> 1, 255), the larger of the two and latab[address]
unfoldable pub logadd : ℕ → ℕ → ℕ
logadd a b = max a b + entry latab (min ((max a b - min a b) / 2) 255)

-- the psds of n bins from bin j on, joined in order: the first as it is, each further one by logadd; 0 for no bin
unfoldable pub joined_psd : List ℕ → ℕ → ℕ → ℕ
joined_psd exp j zero = 0
joined_psd exp j (suc zero) = psd (get_or exp j 0)
joined_psd exp j (suc (suc n)) = logadd (joined_psd exp j (suc n)) (psd (get_or exp (j + suc n) 0))

-- bins first .. end - 1 of a channel are coded: the first of them that is the band's
unfoldable pub firstbin : ℕ → ℕ → ℕ
firstbin first band = max (entry bndtab band) first

-- lastbin = min (bndtab + bndsz, end): the bin behind the last of them
unfoldable pub lastbin : ℕ → ℕ → ℕ
lastbin end band = min (entry bndtab band + entry bndsz band) end

-- bndpsd[band]; 0 for a band that has none of these bins: no end that a sheet may hold makes 7.2.2.4 ask for one
unfoldable pub bndpsd : List ℕ → ℕ → ℕ → ℕ → ℕ
bndpsd exp first end band = joined_psd exp (firstbin first band) (lastbin end band - firstbin first band)
