-- The test of baps, from a bin on: what is left decides.
use mathlib.Core.Path.{◌≡◌, refl, sym}
use mathlib.Core.Bool.{Bool, true, false, ◌&&◌}
use mathlib.Core.List.{List}
use Prim.Native.Nat.{ℕ, ◌+◌, ◌≤◌, ◌<◌}
use native.Mathlib.Numerals.{add-one}
use lib.Dec.{ltb}
use lib.ListN.{length, drop, get_or, drop_of_length-le}
use lib.Seq.{drop-cons}
use Rattle.mantissas.specs.Stream.{baps_fit}

unfoldable pub baps_from : ℕ → List ℕ → Bool
baps_from i bs = baps_fit (drop i bs)

pub baps-start : (bs : List ℕ) → (true && baps_from 0 bs) ≡ baps_fit bs
unfolding baps_from
baps-start bs = refl

baps-at : (i : ℕ) (bs : List ℕ) → i < length bs → baps_from i bs ≡ (ltb (get_or bs i 0) 16 && baps_from (i + 1) bs)
unfolding baps_from baps_fit
baps-at i bs h = rw (drop-cons bs i 0 h, add-one)

-- those before bin i, then bin i, then those behind it
pub baps-next : (i : ℕ) (bs : List ℕ) (all : Bool) → i < length bs → ((all && ltb (get_or bs i 0) 16) && baps_from (i + 1) bs) ≡ (all && baps_from i bs)
baps-next i bs true h = sym (baps-at i bs h)
baps-next i bs false h = refl

pub baps-end : (i : ℕ) (bs : List ℕ) (all : Bool) → length bs ≤ i → all ≡ (all && baps_from i bs)
unfolding baps_from baps_fit
baps-end i bs true h = rw (drop_of_length-le bs h)
baps-end i bs false h = refl
