-- A code that has a field of its own, or a group.
use Rattle.std.proofs.Common.{sym, ◌∙◌, arith}
use Rattle.mantissas.specs.CodedLaws.{coded-length}
use Rattle.mantissas.proofs.Grouping.{group-alone}
use Rattle.mantissas.proofs.stream.value_at.Goals as goal

pub bounds-codes-i : goal.bounds-codes-i
bounds-codes-i c = omega (arith, coded-length c.requires.coded)

pub returns-then-n-eq1 : goal.returns-then-n-eq1
returns-then-n-eq1 c =
    let a = c.args in
    c.from.ensures ∙ group-alone a.bap.now a.codes.now a.i c.requires.i_in_bounds.0 (omega (arith, coded-length c.requires.coded)) (sym c.requires.i_in_bounds.1 ∙ c.if-n-eq1.true)
