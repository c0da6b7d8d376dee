use mathlib.Core.Bool.{Bool, ◌&&◌}
use mathlib.Core.List.{List, [], ◌∷◌}
use mathlib.Core.Path.{◌≡◌, refl, ap, ◌∙◌}
use borrow.Author.Rules.{rules}
use borrow.Author.Tests.{tests}
use lib.Ieee.{Float}
use lib.Ieee.Scale.{finite}
use Rattle.std.specs.List.{list_all}
use Rattle.std.proofs.lemmas.Iterator.{YieldsList-from_slice}
use Rattle.std.proofs.lemmas.Iterator.Search.{all_from_yields_List}
use Rattle.frame_runs.specs.Finite.{finite_part}
use Rattle.frame_runs.proofs.finite.part_finite.Goals as goal

each-finite : (xs : List Float) → list_all finite xs ≡ finite_part xs
unfolding finite_part
each-finite [] = refl
each-finite (x ∷ xs) = ap (λ (t : Bool). finite x && t) (each-finite xs)

pub returns : goal.returns
returns c = all_from_yields_List finite _ _ _ c.all.ensures.ran (YieldsList-from_slice c.args.part.now c.iter.ensures.rest) (λ x b q k. search (rules, tests)) ∙ each-finite c.args.part.now
