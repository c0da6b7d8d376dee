use Prim.Native.Nat.{◌+◌, ◌*◌, ◌≤◌, ◌-◌}
use mathlib.Core.Path.{◌≡◌, refl, ◌∙◌}
use mathlib.Core.List.{[]}
use native.Mathlib.Omega.{arith}
use lib.ListN.{length}
use Rattle.bits.specs.PartsLaws.{part-long, fill_start, fill_more, fill_end}
use Rattle.host.specs.Entries.{rows_of}
use Rattle.host.proofs.results.return_rows.Goals as goal

pub loop-c-init : goal.loop-c-init
loop-c-init c = fill_start 6 0 _ [] refl

pub loop-c-preserved : goal.loop-c-preserved
loop-c-preserved c =
    let l = c.loop-c in
    let i = l.c in
    let y = c.return_row.new.slot in
    let k : 6 * i + 6 - 6 * i ≡ 6 = omega arith in
    let h : 6 * i + 6 ≤ length l.slot = omega arith in
    let n : length y ≡ 6 = c.return_row.auto.slot ∙ part-long 6 i (6 * i) (6 * i + 6 - 6 * i) l.slot refl k h in
    fill_more 6 i (6 * i) (6 * i + 6 - 6 * i) _ l.slot y refl k h n l.invariant c.return_row.ensures

pub returns : goal.returns
unfolding rows_of
returns c =
    let l = c.loop-c in
    fill_end 6 l.c _ _ l.slot (omega arith) (omega arith) l.invariant
