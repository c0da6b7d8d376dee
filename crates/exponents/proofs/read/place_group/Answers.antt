-- The group's value is judged, then its three differences in order.
use mathlib.Core.Path.{◌∙◌}
use Rattle.exponents.proofs.Placing.{group-above, group-first, group-second, group-third}
use native.Mathlib.Omega.{arith}
use Rattle.exponents.proofs.read.place_group.Goals as goal

pub returns-then-v-gt124-clause-exp_value : goal.returns-then-v-gt124-clause-exp_value
returns-then-v-gt124-clause-exp_value c = group-above _ _ _ _ (omega arith)

pub returns-in_err-a-clause-exp_value : goal.returns-in_err-a-clause-exp_value
returns-in_err-a-clause-exp_value c = rw c.from_residual.ensures (group-first _ _ _ _ (omega arith) c.in_err-a.ensures.exp_value)

pub returns-in_err-b-clause-exp_value : goal.returns-in_err-b-clause-exp_value
returns-in_err-b-clause-exp_value c =
    let two = rw c.place_span.auto.exp at c.in_err-b.ensures.exp_value in
    rw c.from_residual-in_err-b.ensures (group-second _ _ _ _ _ (omega arith) c.in_ok-a.ensures.exp_value two)

pub returns-clause-exp_value : goal.returns-clause-exp_value
returns-clause-exp_value c =
    let two = rw c.place_span.auto.exp at c.in_ok-b.ensures.exp_value in
    let three = rw (c.place_span-2.auto.exp ∙ c.place_span.auto.exp) at c.place_span-3.ensures.exp_value in
    group-third _ _ _ _ _ _ _ (omega arith) c.in_ok-a.ensures.exp_value two three
