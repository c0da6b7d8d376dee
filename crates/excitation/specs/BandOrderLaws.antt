-- Laws of the bands in order: where a band ends and the next one starts, and what lies behind the last one.
use Rattle.std.specs.Prelude.{ℕ, ◌+◌, min, ◌≤◌, ◌<◌, List, ◌≡◌, refl, get_or}
use Rattle.std.proofs.Common.{sym, ◌∙◌, arith}
use Rattle.std.proofs.Math.Decide.{dec_lt}
use Rattle.tables.specs.Bands.{bndtab, bndsz}
use Rattle.tables.specs.Entry.{entry}
use Rattle.tables.proofs.Rules.{bndtab-next, bndtab-last, bndtab-joined, bndtab-never-falls, bndsz-least, bndtab-one}
use Rattle.excitation.specs.BandPsd.{lastbin, bndpsd}
use Rattle.excitation.specs.BandPsdLaws.{bndpsd-none, bndpsd-past}
use Rattle.excitation.specs.BandOrder.{Bands, Starts, NextBin}

-- the start and the end of the band as the code finds them
pub starts_at : (band bin : ℕ) (table : List ℕ) → table ≡ bndtab → bin ≡ get_or table band 0 → bin ≡ entry bndtab band
unfolding entry
starts_at band bin table t q = q ∙ rw t refl

pub ends_at : (end band bin next : ℕ) (table : List ℕ) → bin ≡ entry bndtab band → table ≡ bndsz → next ≡ min (bin + get_or table band 0) end → next ≡ lastbin end band
unfolding lastbin entry
ends_at end band bin next table q t n = n ∙ rw (t, q)

-- the first band of more than one bin
pub starts-joined : (end : ℕ) → Starts end 28 28
starts-joined end h = (omega arith, sym bndtab-joined)

pub next-bounds : (end band bin next : ℕ) → band < 50 → bin ≡ entry bndtab band → bin < end → end ≤ 253 → next ≡ lastbin end band → NextBin end band bin next
unfolding lastbin
next-bounds end band bin next k q h few n =
    let one = bndsz-least band k in
    record {
      least = omega arith;
      middle = omega arith;
      next-band = λ l. go l (dec_lt band 49);
      none_left = λ l u. omega (arith, bndtab-next band (omega arith));
    }
  where
    go : next < end → Dec (band < 49) → (band + 1 < 50) × (next ≡ entry bndtab (band + 1))
    go l (yes u) = (omega arith, omega (arith, bndtab-next band u))
    go l (no u) = let e : band ≡ 49 = omega (arith, u) in absurd (omega (arith, rw e at n, bndtab-last))

-- the bands of the LFE are its bins
pub single-bands : (end : ℕ) → end < 28 → Bands end end
single-bands end h = record { few = omega arith; each = λ k l. omega (arith, bndtab-one k (omega arith)); last = λ l. omega (arith, bndtab-one end h) }

-- from the last band on the psds are 0
pub bndpsd-behind : (exp : List ℕ) (end n : ℕ) → Bands end n → (i : ℕ) → n ≤ i → bndpsd exp 0 end i ≡ 0
bndpsd-behind exp end n b i h = go (dec_lt i 50)
  where
    go : Dec (i < 50) → bndpsd exp 0 end i ≡ 0
    go (yes l) = bndpsd-none exp 0 end i (omega (arith, b.last (omega arith), bndtab-never-falls n i h l))
    go (no l) = bndpsd-past exp 0 end i (omega (arith, l))
