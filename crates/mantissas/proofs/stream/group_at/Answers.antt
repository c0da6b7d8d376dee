use Rattle.std.proofs.Common.{◌<◌, refl, get_or, arith}
use Rattle.mantissas.specs.CodedLaws.{coded-baps, coded-length}
use Rattle.mantissas.specs.DigitsLaws.{below_at}
use Rattle.mantissas.proofs.Values.{bounded}
use Rattle.mantissas.proofs.Grouping.{group-start, group-take, group-skip, group-missing, group-end, group-room, group-small}
use Rattle.mantissas.proofs.stream.group_at.Goals as goal
use Rattle.mantissas.proofs.stream.group_at.Goals.{Start, then-bap-j, else-bap-j}

low : (c : Start) → get_or c.args.bap.now c.args.i 0 < 16
low c = below_at (coded-baps c.requires.coded) c.args.i c.requires.i_in_bounds.0

pub loop-j-init : goal.loop-j-init
loop-j-init c = (group-start refl c.requires.i_in_bounds.1, omega arith)

pub returns-then-missing-eq0 : goal.returns-then-missing-eq0
returns-then-missing-eq0 c = group-end c.loop-j.invariant.0 c.if-missing-eq0.true

pub overflow_mul-v : goal.overflow_mul-v
overflow_mul-v c =
    omega (arith, group-room c.loop-j.invariant.0 c.requires.coded refl (low (goal.at.overflow_mul-v c).Start) (omega arith) c.requires.i_in_bounds.2)

pub bounds-codes-j : goal.bounds-codes-j
bounds-codes-j c = omega (arith, coded-length c.requires.coded)

pub overflow_add-v : goal.overflow_add-v
overflow_add-v c =
    let room = group-room c.loop-j.invariant.0 c.requires.coded refl (low (goal.at.overflow_add-v c).Start) (omega arith) c.requires.i_in_bounds.2 in
    omega (arith, room, c.from.ensures, c.type_inv.codes c.loop-j.j)

pub loop-j-preserved : goal.loop-j-preserved
loop-j-preserved c =
    let g = c.loop-j.invariant.0 in
    let long = coded-length c.requires.coded in
    elim c.if-bap-j.branch [
      | then-bap-j w ↦ (
        rw (w.missing-is, w.v-is, w.from.ensures) (group-take g (omega arith) (omega arith) w.if-bap-j.true (omega arith) c.requires.i_in_bounds.2),
        omega arith,
      )
      | else-bap-j w ↦ (rw (w.missing-is, w.v-is) (group-skip g (omega arith) (omega arith) w.if-bap-j.false), omega arith)
    ]

pub pow-requires : goal.pow-requires
pow-requires c =
    let hb = low (goal.at.pow-requires c).Start in
    rw (c.requires.i_in_bounds.2, c.from-2.ensures) (omega (arith, (bounded _ c.loop-j.missing hb (omega (arith, c.loop-j.invariant.1, c.requires.i_in_bounds.1))).1))

pub overflow_mul-result : goal.overflow_mul-result
overflow_mul-result c =
    let hb = low (goal.at.overflow_mul-result c).Start in
    let all = group-missing c.loop-j.invariant.0 (omega arith) in
    rw (c.pow.ensures, c.requires.i_in_bounds.2, c.from-2.ensures) (omega (arith, all, group-small c.args.i c.requires.coded hb))

pub returns : goal.returns
returns c = rw (c.pow.ensures, c.requires.i_in_bounds.2, c.from-2.ensures) (group-missing c.loop-j.invariant.0 (omega arith))
