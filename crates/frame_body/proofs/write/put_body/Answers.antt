use mathlib.Core.Path.{◌≡◌}
use mathlib.Core.Bool.{Bool}
use mathlib.Core.List.{List}
use Prim.Native.Nat.{ℕ, ◌<◌}
use Rattle.bits.specs.WriteLaws.{turn-start, turn-ready, turn-put}
use Rattle.frame.specs.Layout.{row_of}
use Rattle.frame.specs.Body.{block_bits, body_bits}
use Rattle.frame.specs.LayoutLaws.{length-row}
use Rattle.frame_rows.specs.RowsLaws.{row-lent}
use Rattle.frame_body.proofs.Blocks.{legal-sets, row-clean, row-bap, row-codes}
use native.Mathlib.Omega.{arith}
use Rattle.frame_body.proofs.write.put_body.Goals as goal

pub loop-b-init : goal.loop-b-init
loop-b-init c = turn-start _ _ _ (omega arith) (omega arith)

pub put_block-w-requires : goal.put_block-w-requires
unfolding body_bits
put_block-w-requires c =
    let g = c.args in
    let p = c.requires in
    let legal = p.legal_frame in
    let given = p.bap_value in
    let i = c.loop-b.b in
    let inside : i < 6 = omega (arith, c.loop-b-test.true) in
    let exps = g.exps.now in
    let bap = g.bap.now in
    let codes = g.codes.now in
    let blocks : ℕ → List Bool = λ j. block_bits g.track.now.settings j (row_of g.track.now.settings j exps) (row_of g.track.now.settings j codes) in
    let room = turn-ready _ blocks i 6 inside c.loop-b.invariant p.ready c.loop-b.auto.out in
    rw (row-lent c.channels-n.ensures i exps, row-lent c.channels-n.ensures i bap, row-lent c.channels-n.ensures i codes) (record {
      b_bound = (inside, length-row g.track.now.settings exps i p.exps_len.0 inside);
      new_sets = legal-sets g.track.now.settings exps legal.shaped i inside;
      bap_value = (
        row-bap g.track.now.legal exps bap codes given.0 legal.coded i inside,
        row-clean g.track.now.legal i codes inside p.exps_len.2 given.1,
        row-codes g.track.now.legal exps bap codes given.0 legal.coded i inside p.exps_len.2 given.1,
      );
      ready = room;
    })

pub loop-b-preserved : goal.loop-b-preserved
loop-b-preserved c =
    let g = c.args in
    let i = c.loop-b.b in
    let p = rw (row-lent c.channels-n.ensures i g.exps.now, row-lent c.channels-n.ensures i g.codes.now) at c.put_block-w.ensures in
    turn-put _ _ c.loop-b.invariant p

pub returns : goal.returns
unfolding body_bits
returns c =
    let e : c.loop-b.b ≡ 6 = omega (arith, c.loop-b.auto) in
    rw e at c.loop-b.invariant
