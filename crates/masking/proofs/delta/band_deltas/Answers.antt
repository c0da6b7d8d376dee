use mathlib.Core.Path.{refl}
use Rattle.elements.specs.declared.segment.Segment.{Segment}
use Rattle.masking.proofs.Spreading.{spread-start, spread-turn, spread-end}
use Rattle.masking.proofs.delta.band_deltas.Goals as goal

pub loop-segment-init : goal.loop-segment-init
loop-segment-init c = spread-start _

pub loop-segment-preserved : goal.loop-segment-preserved
loop-segment-preserved c =
    let none : Segment = record { offst = 0; len = 0; ba = 0 } in
    spread-turn _ _ _ _ _ _ _ _ _ _ _ none c.loop-segment.invariant c.loop-segment-test.true c.from.ensures c.min-start.ensures c.from-in-loop-segment.ensures c.min-stop.ensures c.delta_of.ensures refl
    (c.fill.ensures.after (λ y e. e))

pub returns : goal.returns
returns c = spread-end _ _ _ _ c.loop-segment-test.false c.loop-segment.invariant
