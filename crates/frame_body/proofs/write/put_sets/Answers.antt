use mathlib.Core.Path.{◌≡◌}
use mathlib.Core.Bool.{Bool}
use mathlib.Core.List.{List}
use Prim.Native.Nat.{ℕ}
use Rattle.sheet.specs.Settings.{channels, end_at, set_at}
use Rattle.bits.specs.Parts.{piece}
use Rattle.bits.specs.WriteLaws.{turn-start, turn-ready, turn-put}
use Rattle.frame.specs.Body.{set_bits, sets_bits}
use Rattle.frame.specs.Under.{channel-known}
use Rattle.frame_rows.specs.RowsLaws.{channel-there, row-held}
use Rattle.bits.specs.Walks.{lent_is, lent-long}
use native.Mathlib.Omega.{arith}
use Rattle.frame_body.proofs.write.put_sets.Goals as goal

pub loop-c-init : goal.loop-c-init
loop-c-init c = turn-start _ _ _ (omega arith) (omega arith)

pub put_part-w-requires : goal.put_part-w-requires
unfolding sets_bits
put_part-w-requires c =
    let g = c.args in
    let p = c.requires in
    let n = c.channels-n.result in
    let i = c.loop-c.c in
    let inside = c.loop-c-test.true in
    let long = lent-long 256 n i inside g.row.now (row-held c.channels-n.ensures p.b_bound.1) in
    let e = lent_is 256 n i inside g.row.now in
    let sets : ℕ → List Bool = λ j. set_bits (set_at g.track.now.settings g.b j) (end_at g.track.now.settings j) (piece 256 j g.row.now) in record {
      end_value = (rw c.end_at-end.ensures.is (channel-known _ g.track.now.legal i (channel-there c.channels-n.ensures i inside)).legal, omega (arith, long, c.end_at-end.ensures.most));
      new_set = rw (e, c.set_at-set.ensures, c.end_at-end.ensures.is) (p.new_sets.part i (channel-there c.channels-n.ensures i inside));
      ready = rw (e, c.set_at-set.ensures, c.end_at-end.ensures.is) (turn-ready _ sets _ _ (channel-there c.channels-n.ensures i inside) c.loop-c.invariant p.ready c.loop-c.auto.out);
    }

pub loop-c-preserved : goal.loop-c-preserved
loop-c-preserved c =
    let g = c.args in
    let i = c.loop-c.c in
    let e = lent_is 256 c.channels-n.result i c.loop-c-test.true g.row.now in
    turn-put _ _ c.loop-c.invariant (rw (e, c.set_at-set.ensures, c.end_at-end.ensures.is) at c.put_part-w.ensures)

pub returns : goal.returns
unfolding sets_bits
returns c =
    let e : c.loop-c.c ≡ channels c.args.track.now.settings = omega (arith, c.channels-n.ensures.is, c.loop-c.auto) in
    rw e at c.loop-c.invariant
