-- The segments before the present one are spread over their bands.
use Rattle.masking.proofs.Spreading.{Spread}
use Rattle.masking.proofs.delta.band_deltas.Given as goal

abbrev pub invariant-loop-segment : goal.invariant-loop-segment
invariant-loop-segment l = Spread l.segments l.segment-index l.at l.added
