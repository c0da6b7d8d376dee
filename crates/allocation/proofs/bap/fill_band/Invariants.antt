-- All bins before the present one have their pointers.
use Prim.Native.Nat.{ℕ, ◌-◌, ◌*◌, ◌≤◌}
use mathlib.Core.Path.{◌≡◌}
use lib.ListN.{length, take, get_or}
use Rattle.bits.specs.Parts.{tab}
use Rattle.allocation.proofs.bap.fill_band.Given as goal

abbrev pub invariant-loop-i : goal.invariant-loop-i
invariant-loop-i l =
    (take l.i l.bap ≡ tab l.i (λ (k : ℕ). get_or l.window (l.base - 4 * get_or l.exp k 0) 0)) × (l.i ≤ length l.bap) × (length l.bap ≡ length l.initial.bap)

abbrev pub decreases-loop-i : goal.decreases-loop-i
decreases-loop-i l = length l.bap - l.i
