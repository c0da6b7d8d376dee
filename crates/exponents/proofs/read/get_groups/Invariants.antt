-- After i groups the first p bins are what `read_group` gives in i steps; after the last one that is every bin.
use mathlib.Core.Path.{◌≡◌}
use mathlib.Core.List.{[], ◌∷◌}
use Prim.Native.Nat.{◌+◌, ◌*◌, ◌≤◌, ◌<◌}
use lib.ListN.{length, take}
use Rattle.bits.specs.Field.{bits_of}
use Rattle.bits.specs.Read.{from}
use Rattle.bits.specs.Reading.{ok, steps}
use Rattle.elements.specs.Strategy.{grpsize}
use Rattle.exponents.specs.Reading.{read_group}
use Rattle.exponents.proofs.read.get_groups.Given as goal

abbrev pub invariant-loop-i : goal.invariant-loop-i
invariant-loop-i l =
    (length l.exp ≡ length l.fn.exp)
    × (0 < l.p)
    × (l.p ≤ length l.fn.exp)
    × (l.pos + 7 * l.i ≤ 8 * length l.input)
    × (steps (read_group (length l.fn.exp) (grpsize l.strategy)) l.i (l.first ∷ []) (from l.pos (bits_of l.input)) ≡ ok (take l.p l.exp) (from (l.pos + 7 * l.i) (bits_of l.input)))
