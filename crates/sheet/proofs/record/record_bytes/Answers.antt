-- The item at the channel's place, or no byte.
use Prim.Native.Nat.{ℕ}
use mathlib.Core.Path.{◌≡◌, refl, ap, ◌∙◌}
use mathlib.Core.List.{List, []}
use Rattle.std.specs.Prelude.{Option, Some, None, unwrap_or, option_map}
use Rattle.std.specs.Borrow.{Bor}
use Rattle.std.proofs.lemmas.Option.{unwrap_or-slice_get}
use Rattle.std.proofs.lemmas.Iterator.Consumers.{YieldsList-from_first, nth_from_yields_List}
use Rattle.sheet.specs.Grammar.{count_off, records_of}
use Rattle.sheet.proofs.record.record_bytes.Goals as goal

-- what is read of an item, or of no byte
read : (o : Option (Bor (List ℕ))) (none : Bor (List ℕ)) → none.now ≡ [] → (unwrap_or o none).now ≡ unwrap_or (option_map (λ y. y.now) o) []
read None none e = e
read (Some y) none e = refl

pub returns : goal.returns
returns c =
    let rs = records_of c.args.sheet.now in
    let nth = nth_from_yields_List c.nth.result c.nth.new.self c.args.channel c.nth.ensures.ran (YieldsList-from_first (λ y. y.now) (λ s. count_off 0 s.rest.now) rs c.of.ensures.records) in
    ap (λ (y : Bor (List ℕ)). y.now) c.unwrap_or.ensures ∙ read c.nth.result _ refl ∙ ap (λ (o : Option (List ℕ)). unwrap_or o []) nth ∙ unwrap_or-slice_get rs c.args.channel []
