-- Each way to answer is one of the laws of the reader's answer, and says what the slice holds.
use mathlib.Core.Path.{refl, ◌∙◌}
use lib.ListN.{length}
use Rattle.bits.specs.Field.{bits_of}
use Rattle.exponents.proofs.Filling.{all-zero}
use Rattle.exponents.proofs.Answers.{range-parts, length-parts, read-fault, read-good, from_start}
use native.Mathlib.Omega.{arith}
use Rattle.exponents.proofs.read.read_exponents_grouped.Goals as goal

pub get_exponents-r-requires : goal.get_exponents-r-requires
get_exponents-r-requires c =
    let x = c.args in
    let t = c.in_ok-strategy.ensures in
    let b = length-parts x.end (length x.exp.now) t.fits in
    record {
      pos_bound = (omega arith, omega arith);
      end_value = ((range-parts x.end x.grpsize t.ranged).0, b.1);
    }

pub returns-in-Err : goal.returns-in-Err
returns-in-Err c =
    let g = c.get_exponents-r in
    let x = c.args in
    let e = rw (from_start (bits_of x.input.now)) at c.in-Err.ensures.came.is in
    let q = read-fault (bits_of x.input.now) x.end x.grpsize x.exp.now _ c.in_ok-strategy.ensures _ e in
    record {
      value = q.0;
      exp_after = all-zero x.exp.now _ _ _ (c.fill.ensures.after (λ y e. e)) g.auto.exp refl ∙ q.1;
    }

pub returns-in-Ok : goal.returns-in-Ok
returns-in-Ok c =
    let g = c.get_exponents-r in
    let x = c.args in
    let a = c.in-Ok.ensures.came in
    let e = rw (from_start (bits_of x.input.now)) at a.is in
    let q = read-good (bits_of x.input.now) x.end x.grpsize x.exp.now _ c.in_ok-strategy.ensures _ _ g.auto.exp e a.within g.ensures.exp_after in
    record {
      value = q.0;
      exp_after = q.1;
    }
