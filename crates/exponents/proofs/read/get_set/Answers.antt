-- The absolute value, or that it runs past the input; then the groups.
use mathlib.Core.Path.{◌≡◌, sym, ◌∙◌}
use Rattle.std.specs.Prelude.{Err}
use Rattle.std.proofs.Common.{rules}
use Rattle.bits.specs.Field.{bits_of}
use Rattle.bits.specs.FieldLaws.{length-bits_of}
use Rattle.bits.specs.ReadLaws.{found-value, found-past}
use Rattle.bits.specs.declared.refusal.Refusal.TheVariants as refusal
use Rattle.exponents.proofs.Turns.{set_past, set-came, there, not-there}
use native.Mathlib.Omega.{arith}
use Rattle.exponents.proofs.read.get_set.Goals as goal

pub returns-in_err-first-clause-came : goal.returns-in_err-first-clause-came
returns-in_err-first-clause-came c =
    let k : c.from_residual.result ≡ Err (record { refusal = refusal.PastInput; pos = c.args.pos }) = search rules in
    let past = found-past _ (sym c.get.ensures ∙ not-there _ _ _ c.in_err-first.ensures.value) in
    rw k (record { is = set_past _ _ _ past; within = rw length-bits_of c.requires.pos_bound.0; later = omega arith })

pub get_groups-requires-clause-pos_bound : goal.get_groups-requires-clause-pos_bound
get_groups-requires-clause-pos_bound c =
    let x = c.args in
    let f = found-value 4 x.pos (bits_of x.input.now) _ (sym c.get.ensures ∙ there _ _ _ c.in_ok-first.ensures.value) in
    (omega (arith, rw length-bits_of at f.1), omega arith, omega (arith, f.2))

pub returns-clause-came : goal.returns-clause-came
returns-clause-came c =
    let x = c.args in
    let f = found-value 4 x.pos (bits_of x.input.now) _ (sym c.get.ensures ∙ there _ _ _ c.in_ok-first.ensures.value) in
    set-came _ _ _ _ _ _ _ f.0 c.get_groups.ensures.came
