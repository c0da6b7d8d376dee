-- The field is read and judged: each way out is a law of GroupReading.antt.
use Rattle.std.specs.Prelude.{◌≡◌}
use Rattle.std.proofs.Common.{refl, sym, ◌∙◌}
use Rattle.std.proofs.lemmas.Result.{err_from_is_err_and}
use Rattle.bits.specs.FieldLaws.{length-bits_of}
use Rattle.bits.specs.declared.refusal.Refusal.TheVariants as refusal
use Rattle.mantissas.proofs.GroupReading.{group-past, group-no-code, group-good}
use Rattle.mantissas.proofs.reader.read_group.Goals as goal

pub returns-in_err-v : goal.returns-in_err-v
returns-in_err-v c =
    let e = c.in_err-v.ensures in
    let p = err_from_is_err_and c.from_residual.result c.from_residual.ensures.1 in
    let past = group-past c.args.b c.args.pos c.width.result _ c.width.ensures.value (sym c.get.ensures ∙ e.ok_part) in
    let is = rw e.ok_part at e.value in
    let k : c.in_err-v.field-0.0 ≡ record { refusal = refusal.PastInput; pos = c.args.pos } = cc in
    rw (p.1, p.2, k) (past, refl)

pub returns-then-v-limit : goal.returns-then-v-limit
returns-then-v-limit c =
    (group-no-code _ _ _ _ _ _ c.width.ensures.value (sym c.get.ensures ∙ c.in_ok-v.ensures.ok_part) (rw c.size.ensures.value at c.values-limit.ensures.value) c.if-v-limit.true, refl)

pub returns : goal.returns
returns c =
    group-good c.width.ensures.value (sym c.get.ensures ∙ c.in_ok-v.ensures.ok_part) (rw c.size.ensures.value at c.values-limit.ensures.value) c.if-v-limit.false (rw length-bits_of c.requires.1)
