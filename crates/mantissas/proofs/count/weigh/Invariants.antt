-- After some bins their weights are in; each turn is a law of Weighing.antt.
use Rattle.std.proofs.Common.{◌≡◌, ◌+◌, ◌*◌, ◌^◌, ◌≤◌, take}
use Rattle.mantissas.specs.Tally.{tally_of}
use Rattle.mantissas.proofs.count.weigh.Given as goal

abbrev pub invariant-loop-b : goal.invariant-loop-b
invariant-loop-b l = (l.sum ≡ l.tally + tally_of (take l.b-index l.bap)) × (l.sum ≤ l.tally + 2 ^ 38 * l.b-index)
