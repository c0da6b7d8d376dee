-- A reuse leaves the part; a new set is read into it, with 0 from end on.
use native.Mathlib.Omega.{arith}
use Rattle.bits.specs.FieldLaws.{length-bits_of}
use Rattle.frame_reader.proofs.OnePart.{part_left, part-came}
use Rattle.frame_reader.proofs.sets.get_part.Goals as goal

pub returns-in-Reuse-clause-came : goal.returns-in-Reuse-clause-came
returns-in-Reuse-clause-came c = record { is = part_left _ _ _ _ c.in-Reuse.is; within = rw length-bits_of (omega arith); later = omega arith }

pub returns-in-New-clause-came : goal.returns-in-New-clause-came
returns-in-New-clause-came c =
    let a = c.args in
    let g = c.get_exponents.ensures in
    part-came a.set _ a.end a.part.now _ _ _ _ c.in-New.is c.requires.end_value.2 g.came g.exp_after
