-- What holds of the tables of A/52 7.2.3 and 7.3, each computed over the whole table by specs/Computed.antt.
-- First MASKTAB's rule (document 01, "Allocation": the one band of BNDTAB and BNDSZ that holds the bin), then the bands and the order of
-- LATAB and BAPTAB, then bounds.
use Rattle.std.specs.Prelude.{◌≡◌, refl, Bool, ◌&&◌, [], ◌∷◌, map, ℕ, zero, suc, ◌+◌, ◌-◌, ◌^◌, ◌≤◌, ◌<◌, T, leb, ltb, eqb, pos, neg_ℤ, length}
use Rattle.std.proofs.Math.Decide.{dec_le}
use Rattle.std.proofs.Common.{add-one, arith, leb→le, ltb→lt, eqb→eq}
use Rattle.std.specs.Float.Ieee.Fits.{and_l, and_r}
use Rattle.tables.specs.Entry.{entry, row}
use Rattle.tables.specs.Parameters.{slowdec, fastdec, slowgain, dbpbtab, floortab, fastgain, signed16}
use Rattle.tables.specs.Bands.{bndtab, bndsz, masktab}
use Rattle.tables.specs.Masking.{latab, hth}
use Rattle.tables.specs.Quantizer.{baptab, quantization_bits, level_counts, level_count}
use Rattle.tables.specs.EntryLaws.{entry_past}
use Rattle.tables.specs.Computed.{all_below, at-index, entry-most, entry-none, row-entry-most, never_rises, never_falls, never-rises, never-falls}

-- the bin is one of the band's: BNDSZ of them from BNDTAB on
pub record HoldsBin (band bin : ℕ) : Type 0 where
  pub low : entry bndtab band ≤ bin
  pub high : bin < entry bndtab band + entry bndsz band

holds_bin : ℕ → ℕ → Bool
holds_bin band bin = leb (entry bndtab band) bin && ltb bin (entry bndtab band + entry bndsz band)

masktab-holds-all : T (all_below 253 (λ (bin : ℕ). holds_bin (entry masktab bin) bin))
unfolding holds_bin entry bndtab bndsz masktab
masktab-holds-all = tt

pub masktab-holds-bin : (bin : ℕ) → bin < 253 → HoldsBin (entry masktab bin) bin
unfolding holds_bin
masktab-holds-bin bin h =
    let band = entry masktab bin in
    let t = at-index 253 (λ (i : ℕ). holds_bin (entry masktab i) i) masktab-holds-all bin h in
    record {
      low = leb→le _ _ (and_l (leb (entry bndtab band) bin) (ltb bin (entry bndtab band + entry bndsz band)) t);
      high = ltb→lt _ _ (and_r (leb (entry bndtab band) bin) (ltb bin (entry bndtab band + entry bndsz band)) t);
    }

only_band : ℕ → ℕ → Bool
only_band band j = eqb (entry masktab (entry bndtab band + j)) band

masktab-only-all : T (all_below 50 (λ (band : ℕ). all_below (entry bndsz band) (only_band band)))
unfolding only_band entry bndtab bndsz masktab
masktab-only-all = tt

-- it is the one band that holds the bin
pub masktab-only : (bin band : ℕ) → HoldsBin band bin → entry masktab bin ≡ band
unfolding only_band bndtab bndsz
masktab-only bin band b = go (dec_le 50 band)
  where
    go : Dec (50 ≤ band) → entry masktab bin ≡ band
    go (yes l) = absurd (omega (arith, b.high, entry_past bndtab band l, entry_past bndsz band l))
    go (no l) =
        let j : ℕ = bin - entry bndtab band in
        let e : entry bndtab band + j ≡ bin = omega (arith, b.low) in
        let each = at-index 50 (λ (k : ℕ). all_below (entry bndsz k) (only_band k)) masktab-only-all band (omega arith) in
        rw e at (eqb→eq (entry masktab (entry bndtab band + j)) band (at-index (entry bndsz band) (only_band band) each j (omega (arith, b.low, b.high))))

-- entries 253 to 255 are 0, and so is what is read past them
pub masktab-past : (bin : ℕ) → 253 ≤ bin → entry masktab bin ≡ 0
unfolding masktab
masktab-past = entry-none 253 masktab tt

-- the bands lie side by side, and none is empty
next_band : ℕ → Bool
next_band k = eqb (entry bndtab (suc k)) (entry bndtab k + entry bndsz k)

bndtab-next-all : T (all_below 49 next_band)
unfolding next_band entry bndtab bndsz
bndtab-next-all = tt

pub bndtab-next : (k : ℕ) → k < 49 → entry bndtab (k + 1) ≡ entry bndtab k + entry bndsz k
unfolding next_band
bndtab-next k h = rw (add-one k) (eqb→eq _ _ (at-index 49 next_band bndtab-next-all k h))

bndsz-least-all : T (all_below 50 (λ (k : ℕ). leb 1 (entry bndsz k)))
unfolding entry bndsz
bndsz-least-all = tt

pub bndsz-least : (band : ℕ) → band < 50 → 1 ≤ entry bndsz band
bndsz-least band h = leb→le _ _ (at-index 50 (λ (k : ℕ). leb 1 (entry bndsz k)) bndsz-least-all band h)

-- so BNDTAB never falls
bndtab-steps : T (never_falls 49 (entry bndtab))
unfolding entry bndtab
bndtab-steps = tt

pub bndtab-never-falls : (i j : ℕ) → i ≤ j → j < 50 → entry bndtab i ≤ entry bndtab j
bndtab-never-falls i j h l = never-falls 49 (entry bndtab) bndtab-steps i j h (omega arith)

-- bands 0 to 27 have one bin each, that of their own number
one-bin : T (all_below 28 (λ (k : ℕ). eqb (entry bndtab k) k && eqb (entry bndsz k) 1))
unfolding entry bndtab bndsz
one-bin = tt

module _ (band : ℕ) (h : band < 28) where
  one : T (eqb (entry bndtab band) band && eqb (entry bndsz band) 1)
  one = at-index 28 (λ (k : ℕ). eqb (entry bndtab k) k && eqb (entry bndsz k) 1) one-bin band h

  pub bndtab-one : entry bndtab band ≡ band
  bndtab-one = eqb→eq _ _ (and_l (eqb (entry bndtab band) band) (eqb (entry bndsz band) 1) one)

  pub bndsz-one : entry bndsz band ≡ 1
  bndsz-one = eqb→eq _ _ (and_r (eqb (entry bndtab band) band) (eqb (entry bndsz band) 1) one)

-- and so these bins are bands of their own
pub masktab-one : (bin : ℕ) → bin < 28 → entry masktab bin ≡ bin
masktab-one bin h = masktab-only bin bin (record { low = omega (arith, bndtab-one bin h); high = omega (arith, bndtab-one bin h, bndsz-one bin h) })

-- the first band starts at bin 0, the first of more than one bin at bin 28, and the last of all ends behind bin 252
pub bndtab-first : entry bndtab 0 ≡ 0
unfolding entry bndtab
bndtab-first = refl

pub bndtab-joined : entry bndtab 28 ≡ 28
unfolding entry bndtab
bndtab-joined = refl

pub bndtab-last : entry bndtab 49 + entry bndsz 49 ≡ 253
unfolding entry bndtab bndsz
bndtab-last = refl

-- LATAB never rises, at any two indices
latab-steps : T (never_rises 255 (entry latab))
unfolding entry latab
latab-steps = tt

pub latab-never-rises : (i j : ℕ) → i ≤ j → entry latab j ≤ entry latab i
unfolding latab
latab-never-rises i j h = go (dec_le 256 j)
  where
    go : Dec (256 ≤ j) → entry latab j ≤ entry latab i
    go (yes l) = omega (arith, entry_past latab j l)
    go (no l) = never-rises 255 (entry latab) latab-steps i j h (omega arith)

-- from entry 210 on it is 0
pub latab-past : (i : ℕ) → 210 ≤ i → entry latab i ≡ 0
unfolding latab
latab-past = entry-none 210 latab tt

-- BAPTAB never falls
baptab-steps : T (never_falls 63 (entry baptab))
unfolding entry baptab
baptab-steps = tt

pub baptab-never-falls : (i j : ℕ) → i ≤ j → j < 64 → entry baptab i ≤ entry baptab j
baptab-never-falls i j h l = never-falls 63 (entry baptab) baptab-steps i j h (omega arith)

-- the most that an entry can be, at any index
pub slowdec-most : (i : ℕ) → entry slowdec i ≤ 21
unfolding slowdec
slowdec-most = entry-most 21 slowdec tt

pub fastdec-most : (i : ℕ) → entry fastdec i ≤ 123
unfolding fastdec
fastdec-most = entry-most 123 fastdec tt

pub slowgain-most : (i : ℕ) → entry slowgain i ≤ 1344
unfolding slowgain
slowgain-most = entry-most 1344 slowgain tt

pub dbpbtab-most : (i : ℕ) → entry dbpbtab i ≤ 2816
unfolding dbpbtab
dbpbtab-most = entry-most 2816 dbpbtab tt

pub floortab-most : (i : ℕ) → entry floortab i ≤ 0xf800
unfolding floortab
floortab-most = entry-most 0xf800 floortab tt

pub fastgain-most : (i : ℕ) → entry fastgain i ≤ 1024
unfolding fastgain
fastgain-most = entry-most 1024 fastgain tt

pub bndtab-most : (i : ℕ) → entry bndtab i ≤ 229
unfolding bndtab
bndtab-most = entry-most 229 bndtab tt

pub bndsz-most : (i : ℕ) → entry bndsz i ≤ 24
unfolding bndsz
bndsz-most = entry-most 24 bndsz tt

pub masktab-most : (i : ℕ) → entry masktab i ≤ 49
unfolding masktab
masktab-most = entry-most 49 masktab tt

pub latab-most : (i : ℕ) → entry latab i ≤ 64
unfolding latab
latab-most = entry-most 64 latab tt

pub baptab-most : (i : ℕ) → entry baptab i ≤ 15
unfolding baptab
baptab-most = entry-most 15 baptab tt

pub quantization_bits-most : (i : ℕ) → entry quantization_bits i ≤ 16
unfolding quantization_bits
quantization_bits-most = entry-most 16 quantization_bits tt

-- HTH lies between 752 (0x2f0) and 2112 (0x840)
hth-least-all : T (all_below 3 (λ (f : ℕ). all_below 50 (λ (k : ℕ). leb 752 (entry (row hth f) k))))
unfolding entry row hth
hth-least-all = tt

pub hth-least : (fscod band : ℕ) → fscod < 3 → band < 50 → 752 ≤ entry (row hth fscod) band
hth-least fscod band hf hk =
    let each = at-index 3 (λ (f : ℕ). all_below 50 (λ (k : ℕ). leb 752 (entry (row hth f) k))) hth-least-all fscod hf in
    leb→le _ _ (at-index 50 (λ (k : ℕ). leb 752 (entry (row hth fscod) k)) each band hk)

pub hth-most : (fscod band : ℕ) → entry (row hth fscod) band ≤ 2112
unfolding hth
hth-most = row-entry-most 2112 hth tt

-- each of its rows has a threshold for each band
pub length-hth : (fscod : ℕ) → fscod < 3 → length (row hth fscod) ≡ 50
unfolding row hth
length-hth zero h = refl
length-hth (suc zero) h = refl
length-hth (suc (suc zero)) h = refl
length-hth (suc (suc (suc n))) h = absurd (omega arith)

-- the numbers that the patterns of Table 7.10 stand for
pub floortab-signed : map signed16 floortab ≡ pos 752 ∷ pos 688 ∷ pos 624 ∷ pos 560 ∷ pos 496 ∷ pos 368 ∷ pos 240 ∷ neg_ℤ (pos 2048) ∷ []
unfolding signed16 floortab
floortab-signed = refl

-- a code has at most 16 bits
pub level_count-most : (bap : ℕ) → level_count bap ≤ 65536
unfolding level_count level_counts
level_count-most = entry-most 65536 level_counts tt

-- from bap 6 on every value of the field is a level
power-of-bits : ℕ → Bool
power-of-bits i = eqb (level_count (6 + i)) (2 ^ entry quantization_bits (6 + i))

power-of-bits-all : T (all_below 10 power-of-bits)
unfolding power-of-bits level_count entry quantization_bits
power-of-bits-all = tt

pub level_count-power : (bap : ℕ) → 6 ≤ bap → bap < 16 → level_count bap ≡ 2 ^ entry quantization_bits bap
unfolding power-of-bits
level_count-power bap l h =
    let e : 6 + (bap - 6) ≡ bap = omega arith in
    rw e at (eqb→eq (level_count (6 + (bap - 6))) (2 ^ entry quantization_bits (6 + (bap - 6))) (at-index 10 power-of-bits power-of-bits-all (bap - 6) (omega arith)))
