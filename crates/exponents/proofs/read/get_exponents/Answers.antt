-- The bins below end are the set's, and those from end on become 0.
use mathlib.Core.Path.{◌≡◌, refl, ◌∙◌}
use Prim.Native.Nat.{◌-◌}
use lib.ListN.{length, take, length-take}
use Rattle.exponents.proofs.Filling.{both-front, both_rest}
use native.Mathlib.Omega.{arith}
use Rattle.exponents.proofs.read.get_exponents.Goals as goal

pub get_set-r-requires-clause-exp_value : goal.get_set-r-requires-clause-exp_value
get_set-r-requires-clause-exp_value c =
    let a = c.args in
    let k : length (take (a.end - 0) a.exp.now) ≡ a.end = rw length-take (omega arith) in
    rw k c.requires.end_value.0

pub returns : goal.returns
returns c =
    let f = c.fill in
    let g = c.get_set-r in
    let a = c.args in
    let k : length (take (a.end - 0) a.exp.now) ≡ a.end = rw length-take (omega arith) in
    let z = f.ensures.after (λ y e. e) in
    let front = both-front a.exp.now g.new.exp a.end (a.end - 0) (omega arith) (g.auto.exp ∙ k) (omega arith) _ (length a.exp.now) refl z in
    let rest = both_rest a.exp.now g.new.exp a.end (a.end - 0) (omega arith) (g.auto.exp ∙ k) (omega arith) _ (length a.exp.now) refl z in
    record {
      came = rw front (rw k at g.ensures.came);
      exp_after = rest;
      pos_bound_2 = g.ensures.pos_bound_2;
    }
