use Rattle.std.proofs.Common.{sym, ℕ, leb, take_all}
use Rattle.std.proofs.lemmas.List.Folds.{list_all_more}
use Rattle.allocation.specs.Allocation.{exponents_fit}
use Rattle.allocation.proofs.ranges.exponents_fit.Goals as goal

pub loop-e-preserved : goal.loop-e-preserved
loop-e-preserved c =
    let l = c.loop-e in
    rw l.invariant (sym (list_all_more (λ (e : ℕ). leb e 24) _ l.e-index 0 c.loop-e-test.true))

pub returns : goal.returns
unfolding exponents_fit
returns c = let l = c.loop-e in rw (take_all _ _ c.loop-e-test.false) at l.invariant
