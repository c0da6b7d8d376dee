use mathlib.Core.Path.{refl}
use native.Mathlib.Omega.{arith}
use lib.ListN.{length-set}
use Rattle.frame_rows.proofs.Copying.{copy_more, copy-end}
use Rattle.frame_rows.proofs.codes.copy_codes.Goals as goal

pub loop-i-init : goal.loop-i-init
loop-i-init c = (c.requires, refl)

pub loop-i-preserved : goal.loop-i-preserved
loop-i-preserved c =
    let l = c.loop-i in
    (rw length-set l.invariant.0, copy_more c.args.from.now _ l.i _ c.loop-i-test.true (omega (arith, l.invariant.0, c.loop-i-test.true)) l.invariant.1 refl)

pub returns : goal.returns
returns c =
    let l = c.loop-i in
    copy-end c.args.from.now _ l.i (omega arith) l.invariant.0 l.invariant.1
