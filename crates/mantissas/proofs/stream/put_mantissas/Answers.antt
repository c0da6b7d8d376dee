use Rattle.std.proofs.Common.{◌<◌, ◌∙◌, refl, ap, length, length-set, arith}
use Rattle.mantissas.specs.CodedLaws.{coded-baps, coded-length}
use Rattle.mantissas.specs.DigitsLaws.{below_at}
use Rattle.mantissas.specs.Ranges.{size, levels}
use Rattle.mantissas.specs.RangesLaws.{row}
use Rattle.mantissas.proofs.Arrays.{size-listed, level-listed, some_size, width-listed}
use Rattle.mantissas.proofs.Writing.{write-start, write-ready, write-none, write_new, write-old, write-end}
use Rattle.mantissas.proofs.stream.put_mantissas.Goals as goal
use Rattle.mantissas.proofs.stream.put_mantissas.Goals.{After-from-k, then-left-k-gt0, else-left-k-gt0+then-b-gt0, else-left-k-gt0+else-b-gt0}

low : (c : After-from-k) → c.from-k.result < 16
low c = omega (arith, below_at (coded-baps c.requires.coded) c.loop-i.i (omega arith), c.from-k.ensures)

long : (c : After-from-k) → c.loop-i.i < length c.args.codes.now
long c = omega (arith, coded-length c.requires.coded)

pub loop-i-init : goal.loop-i-init
loop-i-init c = (write-start c.requires.ready.few c.requires.ready.small, refl, refl)

pub bounds-left-k : goal.bounds-left-k
bounds-left-k c = low (goal.at.bounds-left-k c).After-from-k

pub bounds-sizes-k : goal.bounds-sizes-k
bounds-sizes-k c = low (goal.at.bounds-sizes-k c).After-from-k

pub bounds-levels-k : goal.bounds-levels-k
bounds-levels-k c = low (goal.at.bounds-levels-k c).After-from-k

pub value_at-v-requires-clause-i_in_bounds : goal.value_at-v-requires-clause-i_in_bounds
value_at-v-requires-clause-i_in_bounds c =
    let k = c.from-k in (
      omega arith,
      size-listed _ k.result c.group_sizes-sizes.ensures ∙ ap size k.ensures,
      level-listed _ k.result c.level_table-levels.ensures (low (goal.at.value_at-v-requires-clause-i_in_bounds c).After-from-k) ∙ ap levels k.ensures,
    )

pub bounds-widths-k : goal.bounds-widths-k
bounds-widths-k c = low (goal.at.bounds-widths-k c).After-from-k

pub put-w-requires-clause-n_bound : goal.put-w-requires-clause-n_bound
put-w-requires-clause-n_bound c =
    let hb = low (goal.at.put-w-requires-clause-n_bound c).After-from-k in
    omega (arith, c.from.ensures, width-listed _ c.from-k.result c.quantization_bits-widths.ensures, (row c.from-k.result hb).width-most)

pub put-w-requires-clause-ready : goal.put-w-requires-clause-ready
put-w-requires-clause-ready c =
    let at = (goal.at.put-w-requires-clause-ready c).After-from-k in
    let n = c.from.ensures ∙ width-listed _ c.from-k.result c.quantization_bits-widths.ensures in
    rw c.loop-i.invariant.1 (write-ready c.loop-i.invariant.0 (omega arith) (long at) c.from-k.ensures (rw c.loop-i.invariant.2 (low at))
    (omega (arith, c.if-left-k-gt0.false)) c.value_at-v.ensures n c.requires.ready)

pub overflow_sub-left-then-b-gt0 : goal.overflow_sub-left-then-b-gt0
overflow_sub-left-then-b-gt0 c = some_size _ c.from-k.result c.group_sizes-sizes.ensures (low (goal.at.overflow_sub-left-then-b-gt0 c).After-from-k)

pub bounds-left-k-then-b-gt0 : goal.bounds-left-k-then-b-gt0
bounds-left-k-then-b-gt0 c = low (goal.at.bounds-left-k-then-b-gt0 c).After-from-k

pub loop-i-preserved : goal.loop-i-preserved
loop-i-preserved c =
    let at = (goal.at.loop-i-preserved c).After-from-k in
    let l = c.loop-i in
    let k = c.from-k in
    let hk : k.result < length l.left = rw l.invariant.2 (low at) in
    elim c.if-left-k-gt0.branch [
      | then-left-k-gt0 w ↦ (
        rw (w.out-is, w.w-is, w.left-is) (write-old l.invariant.0 (omega arith) (long at) k.ensures hk refl w.if-left-k-gt0.true),
        rw w.out-is l.invariant.1,
        rw (w.left-is, length-set) l.invariant.2,
      )
      | else-left-k-gt0+then-b-gt0 w ↦ (
        rw (w.out-is, w.w-is, w.left-is) (write_new l.invariant.0 (omega arith) (long at) k.ensures hk (omega (arith, w.if-left-k-gt0.false)) w.value_at-v.ensures
            (w.from.ensures ∙ width-listed _ k.result c.quantization_bits-widths.ensures) (size-listed _ k.result c.group_sizes-sizes.ensures) w.put-w.ensures.put),
        rw w.out-is (w.put-w.auto.out ∙ l.invariant.1),
        rw (w.left-is, length-set) l.invariant.2,
      )
      | else-left-k-gt0+else-b-gt0 w ↦ (
        rw (w.out-is, w.w-is, w.left-is) (write-none l.invariant.0 (omega arith) (long at) k.ensures hk (omega (arith, w.if-left-k-gt0.false)) (omega (arith, k.ensures, w.if-b-gt0.false))),
        rw w.out-is l.invariant.1,
        rw w.left-is l.invariant.2,
      )
    ]

pub returns : goal.returns
returns c = write-end c.loop-i.invariant.0 (omega arith)
