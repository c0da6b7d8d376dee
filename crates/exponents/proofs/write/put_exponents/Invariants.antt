-- After i groups the bits of the absolute value and of i groups are appended.
use mathlib.Core.Path.{◌≡◌}
use Prim.Native.Nat.{◌+◌, ◌*◌}
use lib.ListN.{length, take}
use Rattle.bits.specs.Parts.{joined}
use Rattle.bits.specs.Write.{Put, place}
use Rattle.elements.specs.Strategy.{grpsize}
use Rattle.exponents.specs.Groups.{group_bits}
use Rattle.exponents.proofs.write.put_exponents.Given as goal

abbrev pub invariant-loop-i : goal.invariant-loop-i
invariant-loop-i l =
    (length l.out ≡ length l.initial.out)
    × Put l.initial.out l.initial.w (joined l.i (group_bits (grpsize l.strategy) (take l.end l.exp))) l.out l.w
    × (place l.w ≡ place l.initial.w + 7 * l.i)
