use Prim.Native.Nat.{ℕ, ◌+◌, ◌-◌}
use mathlib.Core.List.{List}
use mathlib.Core.Path.{sym, ap, ◌∙◌}
use native.Mathlib.Omega.{arith}
use lib.Ieee.{Float}
use Rattle.sheet.proofs.SettingsLaws.{channels-bounds}
use Rattle.frame_runs.specs.FiniteLaws.{finite-below}
use Rattle.frame_runs.specs.Runs.{least_of, exponents_of, least_from}
use Rattle.frame_runs.specs.RunsLaws.{run_on, run-stops, run_ends}
use Rattle.frame_runs.proofs.part.lower_by_reuse.Goals as goal

pub set_at-requires : goal.set_at-requires
set_at-requires c = (omega arith, omega (arith, channels-bounds c.args.coeffs.now.track.now.legal))

pub returns-in-New : goal.returns-in-New
returns-in-New c = run-stops _ _ _ _ _ _ (sym c.set_at.ensures ∙ c.in-New.is) (omega arith) ∙ c.loop-b.invariant

pub lower_part-requires-clause-coeffs_value : goal.lower_part-requires-clause-coeffs_value
lower_part-requires-clause-coeffs_value c = rw c.below_end.ensures.value (finite-below _ _ _ _ c.args.coeffs.now.encodable.finite (omega arith) c.requires.0)

pub loop-b-preserved : goal.loop-b-preserved
loop-b-preserved c =
    let settings = c.args.coeffs.now.track.now.settings in
    let values = c.args.coeffs.now.values.now in
    let b = c.loop-b.b in
    let lowered = c.lower_part.ensures ∙ ap (λ (xs : List Float). least_of c.loop-b.part (exponents_of xs)) c.below_end.ensures.value in
    ap (λ (l : List ℕ). least_from settings values c.args.c (6 - (b + 1)) (b + 1) l) lowered
    ∙ sym (run_on settings values c.args.c b c.loop-b.part (sym c.set_at.ensures ∙ c.in_default.is) (omega arith)) ∙ c.loop-b.invariant

pub returns : goal.returns
returns c = run_ends _ _ _ _ _ c.loop-b-test.false ∙ c.loop-b.invariant
