-- All bins before the present one have their pointers.
use Prim.Native.Nat.{◌-◌, ◌≤◌}
use mathlib.Core.Path.{◌≡◌}
use lib.ListN.{length, take}
use Rattle.bits.specs.Parts.{tab}
use Rattle.allocation.specs.Held.{bap_from}
use Rattle.allocation.proofs.bap.fill_singles.Given as goal

abbrev pub invariant-loop-bin : goal.invariant-loop-bin
invariant-loop-bin l = (take l.bin l.bap ≡ tab l.bin (bap_from l.bases l.exp)) × (l.bin ≤ l.bins) × (length l.bap ≡ length l.initial.bap)

abbrev pub decreases-loop-bin : goal.decreases-loop-bin
decreases-loop-bin l = l.bins - l.bin
