-- All bins before the present one have their least.
use mathlib.Core.Path.{◌≡◌}
use Prim.Native.Nat.{ℕ, ◌<◌}
use lib.ListN.{length, get_or}
use Rattle.shaping.proofs.reach.each_least.Given as goal

abbrev pub invariant-loop-i : goal.invariant-loop-i
invariant-loop-i g l = (length l.to ≡ length l.initial.to) × ((k : ℕ) → k < l.i → g.F.Fn.post l.least (k, tt) (get_or l.to k 0))
