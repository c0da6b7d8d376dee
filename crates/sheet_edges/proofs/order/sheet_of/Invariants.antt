-- Each record takes at most 26 bytes, behind a head of 12.
use Rattle.std.proofs.Common.{◌≡◌, ◌+◌, ◌*◌, ◌≤◌, length}
use Rattle.sheet_edges.proofs.order.sheet_of.Given as goal

abbrev pub invariant-loop-channel : goal.invariant-loop-channel
invariant-loop-channel l = (length l.bytes ≡ length l.initial.bytes) × (12 ≤ l.at) × (l.at ≤ 12 + 26 * l.channel-index)
