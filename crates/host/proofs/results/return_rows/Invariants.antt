-- The rows stand one after the other.
use Prim.Native.Nat.{◌*◌}
use mathlib.Core.Path.{◌≡◌}
use mathlib.Core.List.{[], map}
use lib.ListN.{take, get_or}
use Rattle.bits.specs.Parts.{joined}
use Rattle.elements.specs.Strategy.{code_of_set}
use Rattle.host.proofs.results.return_rows.Given as goal

abbrev pub invariant-loop-c : goal.invariant-loop-c
invariant-loop-c l = take (6 * l.c) l.slot ≡ joined l.c (λ j. map code_of_set (get_or l.table j []))
