-- Every pair passes a test that looks the levels up; below 16 they are the bap's.
use Rattle.std.specs.Prelude.{◌≡◌, refl, ℕ, Bool, true, false, ◌&&◌, List, [], ◌∷◌, length, get_or, ltb}
use Rattle.std.proofs.Common.{rules, ap, ◌∙◌, arith}
use Rattle.std.specs.List.{list_all, zip}
use borrow.Author.Tests.{tests}
use Rattle.std.proofs.lemmas.Bool.{ltb-true}
use Rattle.std.proofs.lemmas.Iterator.{YieldsList-from_slice, YieldsList-from_zip}
use Rattle.std.proofs.lemmas.Iterator.Search.{all_from_yields_List}
use Rattle.mantissas.specs.Inner.{LevelTable}
use Rattle.mantissas.specs.Ranges.{levels}
use Rattle.mantissas.specs.Stream.{coded}
use Rattle.mantissas.proofs.Arrays.{level-listed}
use Rattle.mantissas.proofs.code.check_codes.Goals as goal

abbrev passes : List ℕ → ℕ × ℕ → Bool
passes table p = ltb p.0 16 && ltb p.1 (get_or table p.0 0)

of_bap : (b c n : ℕ) (low rest : Bool) → (low ≡ true → n ≡ levels b) → ((low && ltb c n) && rest) ≡ (low && (ltb c (levels b) && rest))
of_bap b c n false rest e = refl
of_bap b c n true rest e = ap (λ k. ltb c k && rest) (e refl)

all-coded : (table : List ℕ) → LevelTable table → (bs cs : List ℕ) → length bs ≡ length cs → list_all (passes table) (zip bs cs) ≡ coded bs cs
unfolding coded
all-coded table made [] [] e = refl
all-coded table made [] (c ∷ cs) e = absurd (omega (arith, e))
all-coded table made (b ∷ bs) [] e = absurd (omega (arith, e))
all-coded table made (b ∷ bs) (c ∷ cs) e =
    of_bap b c (get_or table b 0) (ltb b 16) _ (λ h. level-listed table b made (ltb-true b 16 h))
    ∙ ap (λ r. ltb b 16 && (ltb c (levels b) && r)) (all-coded table made bs cs (omega (arith, e)))

pub returns : goal.returns
returns c =
    let table = c.level_table-levels.result in
    all_from_yields_List {s = c.zip.result} (passes table) c.all.new.self _ _ c.all.ensures.ran
    (YieldsList-from_zip (YieldsList-from_slice c.args.bap.now (search rules)) (YieldsList-from_slice c.args.codes.now (search rules)))
    (λ x b q k. search (rules, tests))
    ∙ all-coded table c.level_table-levels.ensures c.args.bap.now c.args.codes.now c.requires
