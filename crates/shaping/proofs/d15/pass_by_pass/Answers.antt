-- The two loops leave what `limited` says.
use mathlib.Core.Path.{ap, ◌∙◌}
use Prim.Native.Nat.{◌-◌}
use native.Mathlib.Omega.{arith}
use Rattle.shaping.specs.Reach.{ascended}
use Rattle.shaping.proofs.Descent.{descended-limited}
use Rattle.shaping.proofs.d15.pass_by_pass.Goals as goal

pub returns : goal.returns
returns c =
    let limit = c.args.limit in
    c.ascend.ensures
    ∙ (ap (ascended (limit - 2)) c.descend.ensures ∙ descended-limited limit _ (omega arith) (omega arith))
