-- All exponents before the present one are at most 24.
use Rattle.std.proofs.Common.{◌≡◌, take, leb, ℕ}
use Rattle.std.specs.List.{list_all}
use Rattle.allocation.proofs.ranges.exponents_fit.Given as goal

abbrev pub invariant-loop-e : goal.invariant-loop-e
invariant-loop-e l = l.all ≡ list_all (λ (e : ℕ). leb e 24) (take l.e-index (take l.end l.exp))
