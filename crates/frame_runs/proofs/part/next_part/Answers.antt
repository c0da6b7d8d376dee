-- A reuse block leaves the part, a new set begins a run.
use mathlib.Core.Path.{sym, ◌∙◌}
use native.Mathlib.Omega.{arith}
use Rattle.sheet.proofs.SettingsLaws.{channels-bounds}
use Rattle.frame_runs.specs.CarriedLaws.{part_stays, part-begins}
use Rattle.frame_runs.proofs.part.next_part.Goals as goal

pub set_at-requires : goal.set_at-requires
set_at-requires c = (c.requires.0, omega (arith, channels-bounds c.args.coeffs.now.track.now.legal))

pub returns-in-New : goal.returns-in-New
returns-in-New c = c.begin_run.ensures ∙ sym (part-begins _ _ _ _ _ _ (sym c.set_at.ensures ∙ c.in-New.is))

pub returns-in_default : goal.returns-in_default
returns-in_default c = sym (part_stays _ _ _ _ _ (sym c.set_at.ensures ∙ c.in_default.is))
