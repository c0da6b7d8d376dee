-- A reuse block has no bits; a new set has its 4 bits and its groups.
use Rattle.frame_body.proofs.Counting.{set-none, set-groups}
use native.Mathlib.Omega.{arith}
use Rattle.frame_body.proofs.count.count_set.Goals as goal

pub returns-in-Reuse : goal.returns-in-Reuse
returns-in-Reuse c = (set-none c.args.set c.args.end c.in-Reuse.is, omega arith)

pub returns-in-New : goal.returns-in-New
returns-in-New c =
    let a = c.args in
    let e = set-groups a.set _ a.end c.in-New.is c.requires in
    let n = rw c.grpsize.ensures at c.group_count-groups.ensures in
    (omega (arith, e, n), omega (arith, n))
