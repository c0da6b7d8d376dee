-- After i turns the first i entries of both outputs are those of the first i bins.
use mathlib.Core.Path.{◌≡◌}
use lib.ListN.{take, get_or}
use Rattle.bits.specs.Parts.{tab}
use Rattle.reconstruct.specs.Bin.{reconstructed, flag_of, level_of}
use Rattle.reconstruct.proofs.rows.reconstruct_bins.Given as goal

abbrev pub invariant-loop-i : goal.invariant-loop-i
invariant-loop-i l = (take l.i l.has_level ≡ tab l.i (λ j. flag_of (reconstructed (get_or l.exps j 0) (get_or l.bap j 0) (get_or l.codes j 0)))) × (take l.i l.levels ≡ tab l.i (λ j. level_of (reconstructed (get_or l.exps j 0) (get_or l.bap j 0) (get_or l.codes j 0))))
