-- The pointers of the bins: a bin's place in the window, and the loops over bins and bands.
use Prim.Native.Nat.{ℕ, ◌+◌, ◌-◌, ◌*◌, ◌/◌, min, ◌≤◌, ◌<◌}
use mathlib.Core.Bool.{Bool}
use mathlib.Core.List.{List}
use mathlib.Core.Path.{◌≡◌, refl, sym, ap, ◌∙◌}
use native.Mathlib.Omega.{arith}
use lib.Bits.{bit_and, and_high}
use lib.Dec.{T, eqb, eqb→eq}
use lib.ListN.{length, take, drop, get_or, replicate, length-take, length-drop}
use lib.Seq.{get_or-take, get_or-drop}
use Rattle.bits.specs.Parts.{tab}
use Rattle.bits.specs.PartsLaws.{length-tab, tab-cong, placed-front, placed-length, placed}
use Rattle.tables.specs.Bands.{bndtab, masktab}
use Rattle.tables.specs.Computed.{all_below, at-index}
use Rattle.tables.specs.Entry.{entry}
use Rattle.tables.specs.Quantizer.{baptab}
use Rattle.tables.proofs.Rules.{masktab-only, bndtab-next, bndtab-joined, bndtab-last}
use Rattle.excitation.specs.Psd.{psd}
use Rattle.excitation.specs.BandPsd.{lastbin}
use Rattle.excitation.specs.BandOrder.{Bands}
use Rattle.excitation.specs.BandOrderLaws.{next-bounds}
use Rattle.excitation.specs.Front.{front}
use Rattle.excitation.specs.FrontLaws.{tab-split}
use Rattle.masking.specs.Held.{held_curve}
use Rattle.masking.specs.HeldLaws.{curve-least}
use Rattle.allocation.specs.Held.{window, held_lowered, held_address, held_bap, held_level, base_of, held_base, base_by, bap_from, bap_by, BandBases}
use Rattle.allocation.specs.declared.initialization.Parameters.{Parameters}
use Rattle.allocation.proofs.ByBand.{below-bands, array_long, array_at, array-most, array-least}

-- ---- the window

window-holds : ℕ → Bool
window-holds j = eqb (get_or window j 0) (entry baptab (min (j - 111) 63))

window-holds-all : T (all_below 272 window-holds)
unfolding window-holds window entry baptab
window-holds-all = tt

window-at : (j : ℕ) → j ≤ 271 → get_or window j 0 ≡ entry baptab (min (j - 111) 63)
unfolding window-holds
window-at j h = eqb→eq _ _ (at-index 272 window-holds window-holds-all j (omega arith))

pub length-window : length window ≡ 272
unfolding window baptab
length-window = refl

-- reads of a table that is the window
pub windows-read : (table : List ℕ) (n base : ℕ) (exp ys : List ℕ) → table ≡ window → ys ≡ tab n (λ i. get_or table (base - 4 * get_or exp i 0) 0)
    → ys ≡ tab n (λ i. get_or window (base - 4 * get_or exp i 0) 0)
windows-read table n base exp ys t e = e ∙ ap (λ (l : List ℕ). tab n (λ i. get_or l (base - 4 * get_or exp i 0) 0)) t

-- a read of BAPTAB at the held address is one of the window
pub held-read : (base e v : ℕ) → base ≤ 271 → v ≡ get_or baptab (min (base - (111 + 4 * e)) 63) 0 → v ≡ get_or window (base - 4 * e) 0
unfolding entry
held-read base e v h q =
    let p : base - (111 + 4 * e) ≡ base - 4 * e - 111 = omega arith in
    (rw p at q) ∙ sym (window-at (base - 4 * e) (omega arith))

base-least : (p : Parameters) (x b h a : ℕ) → 111 ≤ held_base p x b h a
unfolding held_base base_of
base-least p x b h a = omega arith

base-most : (p : Parameters) (x b h a : ℕ) → held_base p x b h a ≤ 271
unfolding held_base base_of
base-most p x b h a = omega arith

-- the parts of an address that are whole 32nds
address-parts : (e floor q : ℕ) → e ≤ 24 → floor ≤ 5120 → (3072 - 128 * e + 2048 - (q * 32 + floor)) / 32 ≡ (5120 - floor) / 32 - q - 4 * e
address-parts e floor q small h =
    let z : 3072 - 128 * e + 2048 - (q * 32 + floor) ≡ 5120 - floor - (q * 32 + 128 * e) = omega arith in
    rw z (omega arith)

base_back : (top q e : ℕ) → e ≤ 24 → 111 + (top - q) - 4 * e - 111 ≡ top - q - 4 * e
base_back top q e small = omega arith

less-most : (n m : ℕ) → n ≤ 271 → n - m ≤ 271
less-most n m h = omega arith

-- 0x1fe0 leaves whole 32s
whole_part : (n : ℕ) → bit_and n 0x1fe0 / 32 * 32 ≡ bit_and n 0x1fe0
whole_part n = omega (arith, and_high n 8 5)

base-is : (p : Parameters) (x b h a e : ℕ) → e ≤ 24 → held_base p x b h a - 4 * e - 111
    ≡ (5120 - p.floor) / 32 - bit_and (held_curve x b p.dbknee h + a + 2496 - (p.snroffset + p.floor)) 0x1fe0 / 32 - 4 * e
unfolding held_base base_of
base-is p x b h a e small = base_back ((5120 - p.floor) / 32) (bit_and (held_curve x b p.dbknee h + a + 2496 - (p.snroffset + p.floor)) 0x1fe0 / 32) e small

-- a bin's entry of the window is its bap
base-bap : (p : Parameters) (x b h a e : ℕ) → e ≤ 24 → p.floor ≤ 5120 → 512 ≤ h → get_or window (held_base p x b h a - 4 * e) 0 ≡ held_bap (held_level p x b h a) e
unfolding held_bap held_level held_lowered held_address
base-bap p x b h a e small floor above =
    let m = held_curve x b p.dbknee h in
    let cut = p.snroffset + p.floor in
    let t : m + a - 512 + 3008 - cut ≡ m + a + 2496 - cut = omega (arith, curve-least x b p.dbknee h) in
    let q : ℕ = bit_and (m + a + 2496 - cut) 0x1fe0 / 32 in
    let same : held_base p x b h a - 4 * e - 111 ≡ (psd e + 2048 - (q * 32 + p.floor)) / 32 =
    base-is p x b h a e small ∙ sym (address-parts e p.floor q small floor) in
    window-at (held_base p x b h a - 4 * e) (less-most (held_base p x b h a) (4 * e) (base-most p x b h a)) ∙ ap (λ (n : ℕ). entry baptab (min n 63)) same ∙ rw (t, whole_part (m + a + 2496 - cut))

-- ---- the bases of the bands

module _ (p : Parameters) (powers excites added thresholds : List ℕ) (n : ℕ) (bases zs : List ℕ) (few : n ≤ 50)
    (e : bases ≡ front (base_by p powers excites added thresholds) n zs) (z : zs ≡ replicate 50 111) where
  abbrev base : ℕ → ℕ
  base = base_by p powers excites added thresholds

  pub bases-fit : BandBases bases
  unfolding base_by
  bases-fit = (
    array_long base 111 n bases zs few e z,
    array-least base 111 n bases zs few e z 111 (λ k. base-least p (get_or excites k 0) (get_or powers k 0) (get_or thresholds k 0) (get_or added k 0)) (omega arith),
    array-most base 111 n bases zs few e z 271 (λ k. base-most p (get_or excites k 0) (get_or powers k 0) (get_or thresholds k 0) (get_or added k 0)) (omega arith),
  )

  -- a bin's pointer by them is that by the arrays
  from-by : (exp : List ℕ) (end m : ℕ) → p.floor ≤ 5120 → ((k : ℕ) → k < 50 → 512 ≤ get_or thresholds k 0) → end ≤ 253 → Bands end m → m ≤ n
      → (bin : ℕ) → bin < end → get_or exp bin 0 ≤ 24 → bap_from bases exp bin ≡ bap_by p powers excites added thresholds exp bin
  unfolding bap_from bap_by base_by
  from-by exp end m floor above short b more bin h small =
      let k = entry masktab bin in
      let l : k < n = omega (arith, below-bands end m bin short b h) in
      rw (array_at base 111 n bases zs few e z k l) (base-bap p (get_or excites k 0) (get_or powers k 0) (get_or thresholds k 0) (get_or added k 0) (get_or exp bin 0) small floor (above k (omega arith)))

  pub filled-by : (exp l : List ℕ) (end m : ℕ) → p.floor ≤ 5120 → ((k : ℕ) → k < 50 → 512 ≤ get_or thresholds k 0) → end ≤ 253 → Bands end m → m ≤ n
      → ((bin : ℕ) → bin < end → get_or exp bin 0 ≤ 24) → take end l ≡ tab end (bap_from bases exp)
      → take end l ≡ tab end (bap_by p powers excites added thresholds exp)
  filled-by exp l end m floor above short b more small t = t ∙ tab-cong _ _ end (λ bin h. from-by exp end m floor above short b more bin h (small bin h))

-- ---- bins

-- a bin's pointer by the base of its band
pub from-base : (bases exp : List ℕ) (bin band v : ℕ) → entry masktab bin ≡ band → v ≡ get_or window (get_or bases band 0 - 4 * get_or exp bin 0) 0
    → v ≡ bap_from bases exp bin
unfolding bap_from
from-base bases exp bin band v k e = e ∙ rw k

-- the band of its bins, from its first one up to next
masktab-here : (end band bin next : ℕ) → bin ≡ entry bndtab band → next ≡ lastbin end band → (i : ℕ) → bin + i < next → entry masktab (bin + i) ≡ band
unfolding lastbin
masktab-here end band bin next q n i h = masktab-only (bin + i) band (record { low = omega arith; high = omega arith })

-- ---- the loop over the joined bands

get_d_part : (l : List ℕ) (a k i : ℕ) → i < k → get_or (take k (drop a l)) i 0 ≡ get_or l (a + i) 0
get_d_part l a k i h = get_or-take k (drop a l) i 0 h ∙ get_or-drop a l i 0

-- the entries from a to n are those of f
pub tab-part : (f : ℕ → ℕ) (l ys : List ℕ) (a n : ℕ) → a ≤ n → n ≤ length l → take a l ≡ tab a f → ys ≡ tab (n - a) (λ i. f (a + i))
    → (take n (placed a (n - a) l ys) ≡ tab n f) × (length (placed a (n - a) l ys) ≡ length l)
tab-part f l ys a n h g e q =
    let z : a + (n - a) ≡ n = omega arith in
    let y : length ys ≡ n - a = ap length q ∙ length-tab (n - a) (λ i. f (a + i)) in
    let t : take (a + (n - a)) (placed a (n - a) l ys) ≡ tab (a + (n - a)) f = rw (placed-front l ys a (n - a) (omega arith) y, e, q) (tab-split f a (n - a)) in
    (rw z at t, placed-length l ys a (n - a) (omega arith) y)

-- the band's part of the exponents, and of the pointers
module _ (exp bap : List ℕ) (end bin next : ℕ) (below : next ≤ end) (long : end ≤ length exp) (room : end ≤ length bap) where
  pub part-lengths : length (take (next - bin) (drop bin exp)) ≡ length (take (next - bin) (drop bin bap))
  part-lengths = rw (length-take (next - bin) (drop bin exp), length-drop bin exp, length-take (next - bin) (drop bin bap), length-drop bin bap) (omega arith)

  pub part-exponents : ((i : ℕ) → i < end → get_or exp i 0 ≤ 24)
      → (i : ℕ) → i < length (take (next - bin) (drop bin exp)) → get_or (take (next - bin) (drop bin exp)) i 0 ≤ 24
  part-exponents most i h =
      let k : length (take (next - bin) (drop bin exp)) ≤ next - bin = rw length-take (omega arith) in
      rw (get_d_part exp bin (next - bin) i (omega arith)) (most (bin + i) (omega arith))

-- all bins before the band's first have their pointers: those up to where the band before it ends
pub record Filled (f : ℕ → ℕ) (end : ℕ) (bap₀ : List ℕ) (band : ℕ) (bap : List ℕ) : Type 0 where
  pub done : take (lastbin end (band - 1)) bap ≡ tab (lastbin end (band - 1)) f
  pub same_length : length bap ≡ length bap₀

-- where the band before ends this one starts, and the last ends behind all bins
lastbin-before : (end band : ℕ) → 1 ≤ band → band < 50 → lastbin end (band - 1) ≡ min (entry bndtab band) end
unfolding lastbin
lastbin-before end band h l =
    let e : band - 1 + 1 ≡ band = omega arith in
    omega (arith, rw e at (bndtab-next (band - 1) (omega arith)))

lastbin-last : (end : ℕ) → end ≤ 253 → lastbin end 49 ≡ end
unfolding lastbin
lastbin-last end h = omega (arith, bndtab-last)

pub filled-start : (f : ℕ → ℕ) (end : ℕ) (bap₀ : List ℕ) → 28 ≤ end → take 28 bap₀ ≡ tab 28 f → Filled f end bap₀ 28 bap₀
filled-start f end bap₀ h e =
    let z : lastbin end 27 ≡ 28 = omega (arith, lastbin-before end 28 (omega arith) (omega arith), bndtab-joined) in
    record { done = rw z e; same_length = refl }

module _ (bases exp : List ℕ) (end : ℕ) (bap₀ : List ℕ) (few : end ≤ 253) (room : end ≤ length bap₀) where
  pub filled_more : (band bin next : ℕ) (bap ys : List ℕ) → Filled (bap_from bases exp) end bap₀ band bap → 28 ≤ band → band < 50
      → bin ≡ entry bndtab band → bin < end → next ≡ lastbin end band
      → ys ≡ tab (length (take (next - bin) (drop bin bap))) (λ i. get_or window (get_or bases band 0 - 4 * get_or (take (next - bin) (drop bin exp)) i 0) 0)
      → Filled (bap_from bases exp) end bap₀ (band + 1) (placed bin (next - bin) bap ys)
  filled_more band bin next bap ys s h l q t n y =
      let f = bap_from bases exp in
      let base = get_or bases band 0 in
      let g = next-bounds end band bin next l q t few n in
      let before : lastbin end (band - 1) ≡ bin = omega (arith, lastbin-before end band (omega arith) l) in
      let after : lastbin end (band + 1 - 1) ≡ next = let e : band + 1 - 1 ≡ band = omega arith in rw e (sym n) in
      let z : length (take (next - bin) (drop bin bap)) ≡ next - bin = rw (length-take, length-drop) (omega (arith, g.middle, s.same_length)) in
      let each : (i : ℕ) → i < next - bin → get_or window (base - 4 * get_or (take (next - bin) (drop bin exp)) i 0) 0 ≡ f (bin + i) =
      λ i u. rw (get_d_part exp bin (next - bin) i u) (from-base bases exp (bin + i) band _ (masktab-here end band bin next q n i (omega arith)) refl) in
      let d = tab-part f bap ys bin next (omega (arith, g.least)) (omega (arith, g.middle, s.same_length)) (rw before at s.done) (y ∙ rw z (tab-cong _ _ (next - bin) each)) in
      record { done = rw after d.0; same_length = d.1 ∙ s.same_length }

-- a band that starts at end or past it, and the end of the loop
pub filled-there : (f : ℕ → ℕ) (end : ℕ) (bap₀ : List ℕ) (band : ℕ) (bap : List ℕ) → Filled f end bap₀ band bap → 1 ≤ band → band < 50 → end ≤ entry bndtab band
    → take end bap ≡ tab end f
filled-there f end bap₀ band bap s h l u =
    let e : lastbin end (band - 1) ≡ end = omega (arith, lastbin-before end band h l) in
    rw e at s.done

pub filled-end : (f : ℕ → ℕ) (end : ℕ) (bap₀ bap : List ℕ) → end ≤ 253 → Filled f end bap₀ 50 bap → take end bap ≡ tab end f
filled-end f end bap₀ bap few s = rw (lastbin-last end few) at s.done
