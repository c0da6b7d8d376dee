-- All channels below the present one have one record.
use mathlib.Core.Path.{◌≡◌}
use Prim.Native.Nat.{◌-◌, ◌≤◌}
use Rattle.sheet.specs.Ranges.{all_below, once}
use Rattle.sheet.proofs.ranges.each_once.Given as goal

abbrev pub invariant-loop-channel : goal.invariant-loop-channel
invariant-loop-channel l = (l.channel ≤ l.channels) × (l.all ≡ all_below l.channel (once l.sheet))

abbrev pub decreases-loop-channel : goal.decreases-loop-channel
decreases-loop-channel l = l.channels - l.channel
