-- A turn adds one entry, or has found one that differs; behind the last, all were compared.
use Rattle.std.proofs.Common.{ℕ, sym, ap, ◌∙◌, refl, true≢false, map, length, arith, ◌*◌}
use Rattle.std.proofs.lemmas.Bool.{eqb-true, eqb-false}
use Rattle.std.proofs.lemmas.List.{length-map}
use Rattle.bits.specs.PartsLaws.{tab-start, tab-end}
use Rattle.replay.specs.EntryLaws.{entries-whole, entries-of, same_more, one-differs}
use Rattle.replay.proofs.compare.same_entries.Goals as goal

pub returns-then-part-width : goal.returns-then-part-width
returns-then-part-width g c = (
  λ h. absurd (true≢false (sym h)),
  λ s. absurd (c.if-part-width.true (entries-of _ _ _ c.bytes-width.ensures.1 (s.0 ∙ ap (λ (w : ℕ). w * length c.args.entries.now) (sym c.bytes-width.ensures.0)))),
)

pub loop-i-init : goal.loop-i-init
loop-i-init g c = tab-start _ (map g.T.Entry.pattern c.args.entries.now)

pub returns-then-not-is_at : goal.returns-then-not-is_at
returns-then-not-is_at g c = (
  λ h. absurd (true≢false (sym h)),
  λ s. absurd (one-differs g.T.Entry.pattern _ c.args.entries.now c.loop-i.i c.index-entries-i.result c.loop-i-test.true
      (λ e. eqb-false _ _ (sym c.is_at.ensures ∙ c.if-not-is_at.true) (ap g.T.Entry.pattern c.index-entries-i.is ∙ e)) s.1),
)

pub loop-i-preserved : goal.loop-i-preserved
loop-i-preserved g c =
    same_more g.T.Entry.pattern _ c.args.entries.now c.loop-i.i c.index-entries-i.result c.loop-i-test.true c.loop-i.invariant
    (ap g.T.Entry.pattern (sym c.index-entries-i.is) ∙ eqb-true _ _ (sym c.is_at.ensures ∙ c.if-not-is_at.false))

pub returns : goal.returns
returns g c = (
  λ h. (
    entries-whole _ _ _ c.bytes-width.ensures.1 c.if-part-width-ne0.false c.if-part-width.false ∙ ap (λ (w : ℕ). w * length c.args.entries.now) c.bytes-width.ensures.0,
    tab-end _ (map g.T.Entry.pattern c.args.entries.now) c.loop-i.i _ (omega arith) (length-map c.args.entries.now g.T.Entry.pattern) c.loop-i.invariant,
  ),
  λ s. refl,
)
