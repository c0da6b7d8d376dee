-- Laws of the band psds: their bound, that only the coded exponents count, and the bands of one bin and of none.
use Rattle.std.specs.Prelude.{ℕ, zero, suc, ◌+◌, ◌-◌, ◌/◌, min, max, ◌≤◌, ◌<◌, List, ◌≡◌, refl, T, leb, get_or}
use Rattle.std.proofs.Common.{sym, ap, add-one, arith, leb→le}
use Rattle.std.proofs.Math.Decide.{dec_le}
use Rattle.tables.specs.Bands.{bndtab, bndsz}
use Rattle.tables.specs.Computed.{all_below, at-index}
use Rattle.tables.specs.Entry.{entry}
use Rattle.tables.specs.EntryLaws.{entry_past}
use Rattle.tables.specs.Masking.{latab}
use Rattle.tables.proofs.Rules.{latab-most, latab-never-rises, bndtab-one, bndsz-one}
use Rattle.excitation.specs.BandPsd.{logadd, joined_psd, firstbin, lastbin, bndpsd}
use Rattle.excitation.specs.Psd.{psd}

-- joining never goes past 3072 + 420, however many bins
latab-room : T (all_below 421 (λ (d : ℕ). leb (d + entry latab (d / 2)) 420))
unfolding entry latab
latab-room = tt

pub logadd-most : (a b : ℕ) → a ≤ 3492 → b ≤ 3072 → logadd a b ≤ 3492
unfolding logadd
logadd-most a b ha hb = go (dec_le a 3072)
  where
    i : ℕ
    i = min ((max a b - min a b) / 2) 255

    go : Dec (a ≤ 3072) → logadd a b ≤ 3492
    go (yes l) = omega (arith, latab-most i)
    go (no l) =
        let d = a - 3072 in
        let r = leb→le (d + entry latab (d / 2)) 420 (at-index 421 (λ (d : ℕ). leb (d + entry latab (d / 2)) 420) latab-room d (omega arith)) in
        omega (arith, r, latab-never-rises (d / 2) i (omega arith))

pub joined_psd-most : (exp : List ℕ) (j n : ℕ) → joined_psd exp j n ≤ 3492
unfolding joined_psd
joined_psd-most exp j zero = omega arith
joined_psd-most exp j (suc zero) = omega arith
joined_psd-most exp j (suc (suc n)) = logadd-most _ _ (joined_psd-most exp j (suc n)) (omega arith)

pub bndpsd-most : (exp : List ℕ) (first end band : ℕ) → bndpsd exp first end band ≤ 3492
unfolding bndpsd
bndpsd-most exp first end band = joined_psd-most exp _ _

-- one bin more, as a loop's turn joins it
pub joined_psd-more : (exp : List ℕ) (j n p q : ℕ) → 1 ≤ n → p ≡ joined_psd exp j n → q ≡ psd (get_or exp (j + n) 0)
    → logadd p q ≡ joined_psd exp j (n + 1)
unfolding joined_psd
joined_psd-more exp j zero p q h hp hq = absurd (omega arith)
joined_psd-more exp j (suc n) p q h hp hq = rw (hp, hq, add-one (suc n))

-- only the exponents of the joined bins count
joined_psd-same : (exp other : List ℕ) (j n : ℕ) → ((i : ℕ) → j ≤ i → i < j + n → get_or exp i 0 ≡ get_or other i 0)
    → joined_psd exp j n ≡ joined_psd other j n
unfolding joined_psd
joined_psd-same exp other j zero h = refl
joined_psd-same exp other j (suc zero) h = rw (h j (omega arith) (omega arith))
joined_psd-same exp other j (suc (suc n)) h =
    rw (h (j + suc n) (omega arith) (omega arith), joined_psd-same exp other j (suc n) (λ i l g. h i l (omega arith)))

-- two lists of exponents that agree from first to end - 1 have one bndpsd
pub bndpsd-same : (exp other : List ℕ) (first end band : ℕ) → ((i : ℕ) → first ≤ i → i < end → get_or exp i 0 ≡ get_or other i 0)
    → bndpsd exp first end band ≡ bndpsd other first end band
unfolding bndpsd firstbin lastbin
bndpsd-same exp other first end band h =
    let j = max (entry bndtab band) first in
    let n = min (entry bndtab band + entry bndsz band) end - j in
    joined_psd-same exp other j n (λ i l g. h i (omega arith) (omega arith))

-- bndpsd by the first bin and the number of bins of a band that is coded from bin 0 on
pub bndpsd-bins : (exp : List ℕ) (end band j n : ℕ) → j ≡ entry bndtab band → n ≡ min (entry bndsz band) (end - j)
    → joined_psd exp j n ≡ bndpsd exp 0 end band
unfolding bndpsd firstbin lastbin
bndpsd-bins exp end band j n hj hn =
    let e : max (entry bndtab band) 0 ≡ j = omega arith in
    let f : min (entry bndtab band + entry bndsz band) end - max (entry bndtab band) 0 ≡ n = omega arith in
    rw (f, e)

-- a band that starts at end or past it has no bin
pub bndpsd-none : (exp : List ℕ) (first end band : ℕ) → end ≤ entry bndtab band → bndpsd exp first end band ≡ 0
unfolding bndpsd firstbin lastbin joined_psd
bndpsd-none exp first end band h =
    let e : min (entry bndtab band + entry bndsz band) end - max (entry bndtab band) first ≡ 0 = omega arith in
    ap (joined_psd exp (max (entry bndtab band) first)) e

-- nor has a number past the last band
pub bndpsd-past : (exp : List ℕ) (first end band : ℕ) → 50 ≤ band → bndpsd exp first end band ≡ 0
unfolding bndpsd firstbin lastbin joined_psd bndtab bndsz
bndpsd-past exp first end band h =
    let e : min (entry bndtab band + entry bndsz band) end - max (entry bndtab band) first ≡ 0 =
    omega (arith, entry_past bndtab band h, entry_past bndsz band h) in
    ap (joined_psd exp (max (entry bndtab band) first)) e

-- a band of one bin has the psd of that bin
pub bndpsd-one : (band : ℕ) → band < 28 → (exp : List ℕ) (end : ℕ) → band < end → bndpsd exp 0 end band ≡ psd (get_or exp band 0)
unfolding joined_psd
bndpsd-one band h exp end l = sym (bndpsd-bins exp end band band 1 (sym (bndtab-one band h)) (omega (arith, bndsz-one band h)))
