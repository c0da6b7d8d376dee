-- After c channels their sets are counted.
use mathlib.Core.Path.{◌≡◌}
use Prim.Native.Nat.{◌*◌, ◌≤◌}
use Rattle.sheet.specs.Settings.{end_at, set_at}
use Rattle.mantissas.specs.Formula.{sum}
use Rattle.frame_body.specs.Counts.{set_count}
use Rattle.frame_body.proofs.count.count_sets.Given as goal

abbrev pub invariant-loop-c : goal.invariant-loop-c
invariant-loop-c l = (l.count ≤ 592 * l.c) × (l.count ≡ sum (λ j. set_count (set_at l.track.settings l.b j) (end_at l.track.settings j)) l.c)
