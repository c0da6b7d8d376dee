use mathlib.Core.Path.{◌∙◌}
use native.Mathlib.Omega.{arith}
use Rattle.std.proofs.lemmas.Result.{err_from_is_err_and}
use Rattle.bits.specs.FieldLaws.{length-bits_of}
use Rattle.sheet.proofs.SettingsLaws.{end-legal}
use Rattle.frame_reader.proofs.SetsTurns.{turn-of, sets-start, part-size, sets-fault, sets_more, sets_end}
use Rattle.frame_reader.proofs.sets.get_sets.Goals as goal

pub loop-c-init : goal.loop-c-init
loop-c-init c = sets-start _ _ _ _ _ c.requires.b_bound.1 (rw length-bits_of c.requires.pos_bound.0)

pub get_part-requires : goal.get_part-requires
get_part-requires c =
    let i = c.loop-c.invariant in
    let t = turn-of c.channels-n.ensures c.loop-c-test.true c.set_at.ensures c.end_at.ensures in record {
      pos_bound = (rw length-bits_of at i.inside, omega (arith, i.near, c.requires.pos_bound.1, c.channels-n.ensures.most, c.loop-c-test.true));
      end_value = (rw t.end_is (end-legal c.args.track.now.legal _ t.there).legal, omega (arith, c.end_at.ensures.most), part-size i t);
    }

pub returns-in_err-at-clause-came : goal.returns-in_err-at-clause-came
returns-in_err-at-clause-came c =
    let t = turn-of c.channels-n.ensures c.loop-c-test.true c.set_at.ensures c.end_at.ensures in
    let p = err_from_is_err_and c.from_residual.result c.from_residual.ensures.1 in
    let i = c.loop-c.invariant in
    let s = c.in_err-at.ensures.came in
    rw (p.1, p.2) (record { is = sets-fault i t _ s.is; within = s.within; later = omega (arith, s.later, i.later) })

pub loop-c-preserved : goal.loop-c-preserved
loop-c-preserved c =
    let i = c.loop-c.invariant in
    let t = turn-of c.channels-n.ensures c.loop-c-test.true c.set_at.ensures c.end_at.ensures in
    sets_more i t c.in_ok-at.ensures.came c.in_ok-at.ensures.near (c.get_part.auto.part ∙ part-size i t)

pub returns-clause-came : goal.returns-clause-came
returns-clause-came c =
    let t = c.loop-c.invariant in
    record { is = sets_end t (omega (arith, c.channels-n.ensures.is, t.few, c.loop-c-test.false)); within = t.inside; later = t.later }
