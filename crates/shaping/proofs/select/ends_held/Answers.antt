use mathlib.Core.Bool.{Bool, ◌&&◌}
use mathlib.Core.List.{List, [], ◌∷◌}
use mathlib.Core.Path.{◌≡◌, refl, ap, ◌∙◌}
use Prim.Native.Nat.{ℕ}
use borrow.Author.Rules.{rules}
use borrow.Author.Tests.{tests}
use Rattle.std.specs.Prelude.{leb}
use Rattle.std.specs.List.{list_all}
use Rattle.std.proofs.lemmas.Iterator.{YieldsList-from_slice}
use Rattle.std.proofs.lemmas.Iterator.Search.{all_from_yields_List}
use Rattle.shaping.specs.Strategies.{ends_held}
use Rattle.shaping.proofs.select.ends_held.Goals as goal

each-end : (ends : List ℕ) → list_all (λ end. leb end 256) ends ≡ ends_held ends
unfolding ends_held
each-end [] = refl
each-end (end ∷ ends) = ap (λ (t : Bool). leb end 256 && t) (each-end ends)

pub returns : goal.returns
returns c = all_from_yields_List (λ end. leb end 256) _ _ _ c.all.ensures.ran (YieldsList-from_slice c.args.ends.now c.iter.ensures.rest) (λ x b q k. search (rules, tests)) ∙ each-end c.args.ends.now
