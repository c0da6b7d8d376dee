use Rattle.std.proofs.Common.{◌<◌, refl, ap, length, get_or, length-set, arith}
use Rattle.std.proofs.lemmas.Result.{err_from_is_err_and}
use Rattle.bits.specs.Field.{bits_of}
use Rattle.bits.specs.FieldLaws.{length-bits_of}
use Rattle.mantissas.specs.DigitsLaws.{below_at}
use Rattle.mantissas.proofs.Reading.{AtHand, started-nothing, started-set, read-start, hand_new, hand-old, read-turn, read-fault, read-end}
use Rattle.mantissas.specs.declared.reader.Pending.{Pending}
use Rattle.mantissas.proofs.reader.get_mantissas.Goals as goal
use Rattle.mantissas.proofs.reader.get_mantissas.Goals.{After-from, then-group-eq0+in_ok-read_group, else-group-eq0}

low : (c : After-from) → get_or c.args.bap.now c.loop-i.i 0 < 16
low c = below_at c.requires.below c.loop-i.i (omega arith)

pub loop-i-init : goal.loop-i-init
loop-i-init c =
    record {
      reading = read-start;
      codes_long = refl;
      within = c.requires.pos_bound.0;
      later = omega arith;
      soon = omega arith;
      long = refl;
      started = started-nothing;
    }

pub bounds-pending-from : goal.bounds-pending-from
bounds-pending-from c = omega (arith, c.from.ensures, low c)

pub size-requires : goal.size-requires
size-requires c = low (goal.at.size-requires c).After-from

pub read_group-requires : goal.read_group-requires
read_group-requires c = (low (goal.at.read_group-requires c).After-from, c.loop-i.invariant.within)

pub returns-in_err-read_group-clause-came : goal.returns-in_err-read_group-clause-came
returns-in_err-read_group-clause-came c =
    let p = err_from_is_err_and c.from_residual.result c.from_residual.ensures.1 in
    let none = rw c.from.ensures at c.if-group-eq0.true in
    let l = c.loop-i.invariant in
    let g = c.in_err-read_group.ensures in
    rw (p.1, p.2) (record {
      is = read-fault l.reading (omega arith) refl none g.0;
      within = rw length-bits_of (omega (arith, g.1, l.within));
      later = omega (arith, g.1, l.later);
    })

pub returns-in_err-read_group-clause-pos_bound_2 : goal.returns-in_err-read_group-clause-pos_bound_2
returns-in_err-read_group-clause-pos_bound_2 c =
    let p = err_from_is_err_and c.from_residual.result c.from_residual.ensures.1 in
    rw (p.1, p.2) (omega (arith, c.in_err-read_group.ensures.1, c.loop-i.invariant.soon))

pub width-requires : goal.width-requires
width-requires c = low (goal.at.width-requires c).After-from

pub next-code-requires : goal.next-code-requires
next-code-requires c =
    let hb = low (goal.at.next-code-requires c).After-from in
    let less = c.loop-i.invariant.started.less _ hb in
    elim c.if-group-eq0.branch [
      | then-group-eq0+in_ok-read_group w ↦ rw w.group-is (hb, w.size.ensures.lower_bound.0, omega (arith, w.size.ensures.value))
      | else-group-eq0 w ↦ rw (w.group-is, c.from.ensures) (hb, omega (arith, rw c.from.ensures at w.if-group-eq0.false), omega (arith, less))
    ]

pub bounds-pending-from-in-loop-i : goal.bounds-pending-from-in-loop-i
bounds-pending-from-in-loop-i c = omega (arith, c.from-in-loop-i.ensures, low (goal.at.bounds-pending-from-in-loop-i c).After-from)

pub loop-i-preserved : goal.loop-i-preserved
loop-i-preserved c =
    let l = c.loop-i in
    let hb = low (goal.at.loop-i-preserved c).After-from in
    let less = l.invariant.started.less _ hb in
    let inside : get_or c.args.bap.now l.i 0 < length l.pending = rw l.invariant.long hb in
    let q = c.next-code.result.1 in
    let e = c.next-code.ensures.codes in
    let turn = λ (hand : AtHand l.pending (get_or c.args.bap.now l.i 0) (bits_of c.args.input.now) l.at c.if-group-eq0.group c.if-group-eq0.at).
    read-turn q l.invariant.reading (omega arith) (omega arith) refl inside hand e in
    elim c.if-group-eq0.branch [
      | then-group-eq0+in_ok-read_group w ↦
          let there = rw length-bits_of at w.in_ok-read_group.ensures.there in
          let n = w.width.ensures in
          let left = ap (λ (p : Pending). p.left) w.group-is in
          rw c.from-in-loop-i.ensures (record {
            reading = turn (rw w.at-is (hand_new (rw c.from.ensures at w.if-group-eq0.true) w.in_ok-read_group.ensures.is n.value (rw w.group-is w.size.ensures.value) (rw w.group-is)));
            codes_long = rw length-set l.invariant.codes_long;
            within = omega (arith, w.at-is, there, n.value);
            later = omega (arith, w.at-is);
            soon = omega (arith, w.at-is, n.upper_bound);
            long = rw length-set l.invariant.long;
            started = started-set q l.invariant.started inside (omega (arith, c.next-code.ensures.left, left, w.size.ensures.value));
          })
      | else-group-eq0 w ↦
          let left = ap (λ (p : Pending). p.left) (rw c.from.ensures at w.group-is) in
          rw c.from-in-loop-i.ensures (record {
            reading = turn (rw w.at-is (hand-old q (rw c.from.ensures at w.group-is) e));
            codes_long = rw length-set l.invariant.codes_long;
            within = rw w.at-is l.invariant.within;
            later = rw w.at-is l.invariant.later;
            soon = omega (arith, w.at-is);
            long = rw length-set l.invariant.long;
            started = started-set q l.invariant.started inside (omega (arith, c.next-code.ensures.left, left, less));
          })
    ]

pub returns-clause-came : goal.returns-clause-came
returns-clause-came c =
    let l = c.loop-i in
    record {
      is = read-end l.invariant.reading (omega arith) (omega arith);
      within = rw length-bits_of l.invariant.within;
      later = l.invariant.later;
    }
