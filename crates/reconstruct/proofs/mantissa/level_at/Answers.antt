-- The fraction's f32, over 2^exponent.
use mathlib.Core.Path.{ap, ◌∙◌}
use native.Mathlib.Omega.{arith}
use Rattle.mantissas.specs.RangesLaws.{row}
use Rattle.reconstruct.specs.BinLaws.{Sized, fraction-sized, level-made}
use Rattle.reconstruct.specs.Inner.{value_of}
use Rattle.reconstruct.proofs.mantissa.level_at.Goals as goal

pub fraction_of-requires : goal.fraction_of-requires
fraction_of-requires c = (c.requires.count_value.1, omega (arith, (row _ c.requires.exponent_bound.1).levels-most, c.requires.count_value.0))

pub value-requires : goal.value-requires
value-requires c =
    let p = c.requires in
    let s : Sized c.fraction_of.result = rw c.fraction_of.ensures (fraction-sized _ _ _ p.exponent_bound.1 p.count_value.0 p.count_value.1) in
    (s.size-most, s.over-least, s.over-most)

pub returns : goal.returns
returns c =
    let p = c.requires in
    rw c.power_f32.ensures (level-made _ _ _ p.exponent_bound.1 p.count_value.0 p.count_value.1 _ p.exponent_bound.0 _ (c.value.ensures ∙ ap value_of c.fraction_of.ensures))
