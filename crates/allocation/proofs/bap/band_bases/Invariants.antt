-- The bands before the present one have their bases.
-- the base of a band, by what is worked out before the loop
use Prim.Native.Nat.{ℕ, ◌-◌, ◌≤◌}
use mathlib.Core.List.{List}
use mathlib.Core.Path.{◌≡◌}
use lib.ListN.{length, get_or}
use Rattle.excitation.specs.Front.{front}
use Rattle.allocation.specs.Held.{base_of}
use Rattle.allocation.proofs.bap.band_bases.Given as goal

unfoldable pub base : ℕ → ℕ → ℕ → List ℕ → List ℕ → List ℕ → List ℕ → ℕ → ℕ
base dbknee lower top powers excites added hth k = base_of dbknee lower top (get_or excites k 0) (get_or powers k 0) (get_or hth k 0) (get_or added k 0)

abbrev pub invariant-loop-band : goal.invariant-loop-band
invariant-loop-band l =
    (l.band ≤ l.bands) × (l.bases ≡ front (base l.dbknee l.lower l.top l.powers l.excites l.added l.hth) l.band l.initial.bases) × (length l.bases ≡ 50)

abbrev pub decreases-loop-band : goal.decreases-loop-band
decreases-loop-band l = l.bands - l.band
