-- Arrays with an entry for each band, filled up to the last one that has a bin.
use Prim.Native.Nat.{ℕ, ◌≤◌, ◌<◌}
use mathlib.Core.List.{List}
use mathlib.Core.Path.{◌≡◌, ap, ◌∙◌}
use native.Mathlib.Decide.{dec_lt}
use native.Mathlib.Omega.{arith}
use lib.ListN.{length, get_or, replicate, length-replicate, get_or-replicate, get_or-eq_default}
use Rattle.tables.specs.Bands.{masktab}
use Rattle.tables.specs.Entry.{entry}
use Rattle.tables.proofs.Rules.{masktab-holds-bin, masktab-most, bndtab-never-falls}
use Rattle.excitation.specs.BandOrder.{Bands}
use Rattle.excitation.specs.Front.{front}
use Rattle.excitation.specs.FrontLaws.{length_front, get_d_front, get_or-behind}

-- a bin below end lies in one of the bands
pub below-bands : (end n bin : ℕ) → end ≤ 253 → Bands end n → bin < end → entry masktab bin < n
below-bands end n bin few b h = go (dec_lt (entry masktab bin) n)
  where
    k : ℕ
    k = entry masktab bin

    go : Dec (k < n) → k < n
    go (yes u) = u
    go (no u) =
        let most = masktab-most bin in
        absurd (omega (arith, b.last (omega (arith, u, most)), bndtab-never-falls n k (omega (arith, u)) (omega arith), (masktab-holds-bin bin (omega arith)).low))

-- an array that is filled up to n, from one that has the same number everywhere
module _ (f : ℕ → ℕ) (v n : ℕ) (xs zs : List ℕ) (few : n ≤ 50) (e : xs ≡ front f n zs) (z : zs ≡ replicate 50 v) where
  zeros-long : length zs ≡ 50
  zeros-long = ap length z ∙ length-replicate {A = ℕ} 50 v

  pub array_long : length xs ≡ 50
  array_long = ap length e ∙ length_front f n zs (omega (arith, zeros-long)) ∙ zeros-long

  pub array_at : (k : ℕ) → k < n → get_or xs k 0 ≡ f k
  array_at k h = ap (λ (l : List ℕ). get_or l k 0) e ∙ get_d_front f n zs k h

  pub array-most : (most : ℕ) → ((k : ℕ) → f k ≤ most) → v ≤ most → (k : ℕ) → get_or xs k 0 ≤ most
  array-most most h l k = rw e (go (dec_lt k n) (dec_lt k 50))
    where
      go : Dec (k < n) → Dec (k < 50) → get_or (front f n zs) k 0 ≤ most
      go (yes u) _ = rw (get_d_front f n zs k u) (h k)
      go (no u) (yes w) = rw (get_or-behind f n zs k (omega (arith, u)), z, get_or-replicate {A = ℕ} 50 k v 0 w) l
      go (no u) (no w) = rw (get_or-behind f n zs k (omega (arith, u)), get_or-eq_default zs 0 {n = k} (omega (arith, w, zeros-long))) (omega arith)

  pub array-least : (least : ℕ) → ((k : ℕ) → least ≤ f k) → least ≤ v → (k : ℕ) → k < 50 → least ≤ get_or xs k 0
  array-least least h l k w = rw e (go (dec_lt k n))
    where
      go : Dec (k < n) → least ≤ get_or (front f n zs) k 0
      go (yes u) = rw (get_d_front f n zs k u) (h k)
      go (no u) = rw (get_or-behind f n zs k (omega (arith, u)), z, get_or-replicate {A = ℕ} 50 k v 0 w) l
