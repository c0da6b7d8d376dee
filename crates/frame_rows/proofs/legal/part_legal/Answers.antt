-- A reuse block is compared, a new set must be shaped.
use mathlib.Core.Path.{◌∙◌}
use native.Mathlib.Nat.{sub-zero}
use Rattle.frame.specs.LegalLaws.{alike-pointwise}
use Rattle.frame_rows.specs.TestsLaws.{part-reuse, part-new}
use Rattle.frame_rows.proofs.legal.part_legal.Goals as goal

pub returns-in-Reuse : goal.returns-in-Reuse
returns-in-Reuse c = (rw sub-zero at c.eq.ensures) ∙ alike-pointwise _ _ ∙ part-reuse _ _ _ _ c.in-Reuse.is

pub returns-in-New : goal.returns-in-New
returns-in-New c = (rw (sub-zero, c.grpsize.ensures) at c.is_shaped.ensures) ∙ part-new _ _ _ _ _ c.in-New.is
