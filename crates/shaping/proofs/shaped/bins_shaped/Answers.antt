use Prim.Native.Nat.{◌+◌, ◌-◌, ◌%◌, ◌<◌}
use mathlib.Core.Path.{◌≡◌}
use lib.ListN.{length, get_or}
use Rattle.std.proofs.Common.{rules}
use borrow.Author.Tests.{leb-true}
use Rattle.shaping.proofs.Checking.{left, check-none, check-start, turn, turn-most, done}
use native.Mathlib.Omega.{arith}
use Rattle.shaping.proofs.shaped.bins_shaped.Goals as goal

pub returns-then-is_empty : goal.returns-then-is_empty
returns-then-is_empty c =
    let z : length c.args.exp.now ≡ 0 = search rules in
    check-none _ _ z

pub loop-i-init : goal.loop-i-init
loop-i-init c =
    let e = c.args.exp.now in
    let z : 0 < length e = search rules in
    (omega arith, λ k. omega (arith, leb-true (get_or e 0 0) 15 k), check-start e c.args.span (omega arith))

pub loop-i-preserved : goal.loop-i-preserved
loop-i-preserved c =
    let a = c.args in
    let l = c.loop-i in
    let place = c.place_in_span.result in
    let t = c.may_follow-ok.ensures in
    let b = l.i - 1 in
    let b' = l.i + 1 - 1 in (
      omega arith,
      λ k. turn-most a.exp.now c.args.span b l.i b' (l.i + 1) place l.ok _ t (omega arith) k,
      turn a.exp.now c.args.span b l.i b' (l.i + 1) place l.ok _ t (omega arith) _ l.invariant.2 c.place_in_span.ensures l.invariant.1 (omega arith) (omega arith) (omega arith) (omega arith),
    )

pub returns : goal.returns
returns c =
    let a = c.args in
    let l = c.loop-i in
    done a.exp.now _ (left c.args.span ((l.i - 1) % c.args.span)) (get_or a.exp.now (l.i - 1) 0) l.i l.ok _ l.invariant.2 (omega arith)
