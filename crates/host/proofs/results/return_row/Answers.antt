-- The codes of the row, entry by entry.
use Rattle.std.proofs.Common.{◌≡◌, ◌∙◌, sym, ap, arith, rules, length}
use Rattle.elements.specs.declared.set.ExponentSet.TheVariants.{Reuse}
use Rattle.host.proofs.Rows.{codes-map}
use Rattle.host.proofs.results.return_row.Goals as goal

pub returns : goal.returns
returns c =
    let six : length c.args.row ≡ 6 = search rules in
    let long : length c.map.result ≡ 6 = omega (arith, ap length c.copy_from_slice.ensures.after) in
    c.copy_from_slice.ensures.after
    ∙ codes-map _ _ (long ∙ sym six) (λ i k. (c.map.ensures.items.at i Reuse 0 (omega (arith, long, six, c.map.ensures.items.long))).2.met)
