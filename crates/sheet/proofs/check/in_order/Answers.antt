use mathlib.Core.Path.{sym, ap, ◌∙◌}
use mathlib.Core.Bool.{◌&&◌, and-true}
use mathlib.Core.List.{List}
use Prim.Native.Nat.{ℕ}
use Rattle.sheet.specs.Grammar.{records_of}
use Rattle.sheet.specs.OrderLaws.{ascending_from, ascending-from}
use Rattle.sheet.proofs.Counting.{order-step}
use Rattle.sheet.proofs.check.in_order.Goals as goal

pub loop-bytes-init : goal.loop-bytes-init
loop-bytes-init c =
    rw (c.into_iter-bytes-iterator.ensures.into_iter_gives, c.of-bytes-items.ensures.records) (sym (ascending-from (records_of c.args.sheet.now)))

pub loop-bytes-preserved : goal.loop-bytes-preserved
loop-bytes-preserved c =
    let l = c.loop-bytes in
    rw (c.from-channel.ensures, c.byte_at.ensures) (order-step l.least c.in-Some.ensures.steps l.all ∙ l.invariant)

pub returns : goal.returns
returns c =
    let l = c.loop-bytes in
    sym (and-true l.all) ∙ sym (ap (λ (rs : List (List ℕ)). l.all && ascending_from l.least rs) c.in-None.ensures.steps.0) ∙ l.invariant
