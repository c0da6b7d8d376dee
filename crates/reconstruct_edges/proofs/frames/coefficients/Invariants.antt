-- The array keeps its length.
use Rattle.std.proofs.Common.{◌≡◌, length}
use Rattle.reconstruct_edges.proofs.frames.coefficients.Given as goal

abbrev pub invariant-loop-i : goal.invariant-loop-i
invariant-loop-i l = 4608 ≡ length l.coeffs
