use mathlib.Core.Path.{◌≡◌, ◌∙◌}
use Rattle.sheet.specs.Settings.{channels}
use Rattle.frame_body.specs.Writing.{below_ends}
use Rattle.frame_body.proofs.Below.{gather-start, gather-turn}
use native.Mathlib.Omega.{arith}
use Rattle.frame_body.proofs.gather.gather.Goals as goal

pub loop-c-init : goal.loop-c-init
loop-c-init g c = let none = gather-start _ c.args.to.now in record { before = omega arith; count = none.0; front = none.1 }

pub loop-c-preserved : goal.loop-c-preserved
loop-c-preserved g c =
    let l = c.loop-c in
    let i = l.invariant in
    let more =
    gather-turn c.args.row.now l.to c.channels-n.ensures c.end_at-end.ensures l.at c.loop-c-test.true i.before c.requires.0 (l.auto.to ∙ c.requires.1) c.copy_from_slice.new.self
    c.copy_from_slice.auto.self c.copy_from_slice.ensures.after (i.count, i.front) in
    record { before = omega (arith, c.end_at-end.ensures.most, i.before); count = more.0; front = more.1 }

pub returns : goal.returns
unfolding below_ends
returns g c =
    let l = c.loop-c in
    let e : l.c ≡ channels c.args.track.now.settings = omega (arith, c.channels-n.ensures.is, l.auto) in
    record { value = rw e at l.invariant.count; to_after = rw e at l.invariant.front }
