-- The loops over the bands' psds: what the array holds after each band.
use Prim.Native.Nat.{ℕ, zero, suc, ◌+◌, ◌-◌, ◌≤◌, ◌<◌}
use mathlib.Core.List.{List}
use mathlib.Core.Path.{◌≡◌, refl, sym, ap, ◌∙◌}
use Rattle.std.proofs.Common.{add-zero}
use native.Mathlib.Decide.{dec_lt}
use native.Mathlib.Omega.{arith}
use lib.ListN.{length, take, drop, get_or, set, replicate, length-take, length-drop}
use lib.Seq.{get_or-take, get_or-drop}
use Rattle.bits.specs.Parts.{tab}
use Rattle.tables.specs.Bands.{bndtab}
use Rattle.tables.specs.Entry.{entry}
use Rattle.tables.proofs.Rules.{bndtab-one}
use Rattle.excitation.specs.Psd.{psd}
use Rattle.excitation.specs.BandPsd.{logadd, lastbin, joined_psd, bndpsd}
use Rattle.excitation.specs.BandPsdLaws.{bndpsd-one, bndpsd-bins}
use Rattle.excitation.specs.BandOrder.{Bands}
use Rattle.excitation.specs.BandOrderLaws.{bndpsd-behind}
use Rattle.excitation.specs.Front.{front}
use Rattle.excitation.specs.FrontLaws.{front-begin, front-more, front-zeros}

-- a band of one bin
pub single : (exp : List ℕ) (end k v : ℕ) → k < 28 → k < end → v ≡ psd (get_or exp k 0) → v ≡ bndpsd exp 0 end k
single exp end k v h l e = e ∙ sym (bndpsd-one k h exp end l)

-- the bins of a band, as a list of their own, have the same psds
part_at : (exp : List ℕ) (j k i : ℕ) → i < k → get_or (take k (drop j exp)) i 0 ≡ get_or exp (j + i) 0
part_at exp j k i h = get_or-take k (drop j exp) i 0 h ∙ get_or-drop j exp i 0

part_joined : (exp : List ℕ) (j k n : ℕ) → n ≤ k → joined_psd (take k (drop j exp)) 0 n ≡ joined_psd exp j n
unfolding joined_psd
part_joined exp j k zero h = refl
part_joined exp j k (suc zero) h = rw (part_at exp j k 0 (omega arith), add-zero j) refl
part_joined exp j k (suc (suc n)) h =
    let bins = take k (drop j exp) in
    let z : 0 + suc n ≡ suc n = omega arith in
    ap (λ (x : ℕ). logadd x (psd (get_or bins (0 + suc n) 0))) (part_joined exp j k (suc n) (omega arith))
    ∙ ap (λ (x : ℕ). logadd (joined_psd exp j (suc n)) (psd x)) (ap (λ (i : ℕ). get_or bins i 0) z ∙ part_at exp j k (suc n) (omega arith))

pub part-long : (exp : List ℕ) (end j next : ℕ) → next ≤ end → end ≤ length exp → length (take (next - j) (drop j exp)) ≡ next - j
part-long exp end j next h l = rw (length-take, length-drop) (omega arith)

-- the bins behind the first
pub behind-long : (bins : List ℕ) → length (take (length bins - 1) (drop 1 bins)) ≡ length bins - 1
behind-long bins = rw (length-take, length-drop) (omega arith)

pub behind-first : (bins : List ℕ) (i q : ℕ) → i < length (take (length bins - 1) (drop 1 bins)) → q ≡ psd (get_or (take (length bins - 1) (drop 1 bins)) i 0)
    → q ≡ psd (get_or bins (0 + (i + 1)) 0)
behind-first bins i q h e =
    let z : 1 + i ≡ 0 + (i + 1) = omega arith in
    e ∙ ap psd (part_at bins 1 (length bins - 1) i (omega (arith, behind-long bins))) ∙ ap (λ (k : ℕ). psd (get_or bins k 0)) z

-- the bands before the present one have their psds
pub record Joined (exp : List ℕ) (end : ℕ) (powers₀ : List ℕ) (band : ℕ) (powers : List ℕ) : Type 0 where
  pub each : (k : ℕ) → k < band → entry bndtab k < end
  pub filled : powers ≡ front (bndpsd exp 0 end) band powers₀

module _ (exp : List ℕ) (end : ℕ) (powers₀ : List ℕ) (low : 28 ≤ end) (high : end ≤ 253) (long : end ≤ length exp) (room : length powers₀ ≡ 51) where
  pub joined-start : take 28 powers₀ ≡ tab 28 (bndpsd exp 0 end) → Joined exp end powers₀ 28 powers₀
  joined-start e = record { each = λ k h. omega (arith, bndtab-one k h); filled = front-begin (bndpsd exp 0 end) 28 powers₀ e }

  -- the psd of the band is that of its bins
  joined_is : (band bin next v : ℕ) → bin ≡ entry bndtab band → next ≡ lastbin end band → bin < end
      → v ≡ joined_psd (take (next - bin) (drop bin exp)) 0 (length (take (next - bin) (drop bin exp))) → v ≡ bndpsd exp 0 end band
  unfolding lastbin
  joined_is band bin next v q n h e =
      e
      ∙ ap (joined_psd (take (next - bin) (drop bin exp)) 0) (part-long exp end bin next (omega arith) long)
      ∙ part_joined exp bin (next - bin) (next - bin) (omega arith)
      ∙ bndpsd-bins exp end band bin (next - bin) q (omega arith)

  pub joined-more : (band bin next v : ℕ) (powers : List ℕ) → Joined exp end powers₀ band powers → band < 50 → bin ≡ entry bndtab band → bin < end
      → next ≡ lastbin end band → v ≡ joined_psd (take (next - bin) (drop bin exp)) 0 (length (take (next - bin) (drop bin exp)))
      → Joined exp end powers₀ (band + 1) (set powers band v)
  joined-more band bin next v powers j l q h n e =
      record {
        each = λ k u. go k (dec_lt k band) u;
        filled = front-more (bndpsd exp 0 end) band v powers powers₀ (omega arith) j.filled (joined_is band bin next v q n h e);
      }
    where
      go : (k : ℕ) → Dec (k < band) → k < band + 1 → entry bndtab k < end
      go k (yes u) w = j.each k u
      go k (no u) w = let z : k ≡ band = omega (arith, u) in rw z (omega arith)

  pub joined-bands : (band : ℕ) (powers : List ℕ) → Joined exp end powers₀ band powers → band ≤ 50 → (band < 50 → end ≤ entry bndtab band) → Bands end band
  joined-bands band powers j few last = record { few = few; each = j.each; last = last }

-- behind the last band the array has its zeros, and so have the psds
pub powers-all : (exp : List ℕ) (end n : ℕ) (l : List ℕ) → Bands end n → l ≡ replicate 51 0 → front (bndpsd exp 0 end) n l ≡ tab 51 (bndpsd exp 0 end)
powers-all exp end n l b e = rw e (front-zeros (bndpsd exp 0 end) n 51 (omega (arith, b.few)) (λ i h k. bndpsd-behind exp end n b i h))
