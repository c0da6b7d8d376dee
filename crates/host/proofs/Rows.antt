-- The codes of a row of sets, and how many rows there are.
use Rattle.std.specs.Prelude.{◌≡◌, ℕ, zero, suc, ◌<◌, ◌≤◌, List, [], ◌∷◌, map, length, get_or, Result, Ok, Err, refl}
use Rattle.std.proofs.Common.{◌∙◌, sym, arith}
use Rattle.std.proofs.lemmas.List.{ext_get_or, length-map}
use Rattle.bits.specs.Answer.{checked}
use Rattle.bits.specs.declared.refusal.Refusal.{Refusal}
use Rattle.elements.specs.Strategy.{code_of_set}
use Rattle.elements.specs.declared.set.ExponentSet.{ExponentSet}
use Rattle.elements.specs.declared.set.ExponentSet.TheVariants.{Reuse}
use Rattle.shaping.specs.Strategies.{select_check, selected}
use Rattle.shaping.specs.StrategyLaws.{selectable}

mapped : (row : List ExponentSet) (i : ℕ) → i < length row → get_or (map code_of_set row) i 0 ≡ code_of_set (get_or row i Reuse)
mapped [] i h = absurd (omega arith)
mapped (x ∷ row) zero h = refl
mapped (x ∷ row) (suc i) h = mapped row i (omega arith)

pub codes-map : (row : List ExponentSet) (codes : List ℕ) → length codes ≡ length row
    → ((i : ℕ) → i < length row → get_or codes i 0 ≡ code_of_set (get_or row i Reuse)) → codes ≡ map code_of_set row
codes-map row codes n each =
    ext_get_or 0 codes (map code_of_set row) (n ∙ sym (length-map row code_of_set))
    (λ i h. let k : i < length row = omega (arith, n) in each i k ∙ sym (mapped row i k))

-- what is selected is accepted, so there are at most six channels
accepted : {A : Type 0} (check : Result (Unit {0}) Refusal) (after : Result A Refusal) (value : A) → checked check after ≡ Ok value → check ≡ Ok tt
accepted (Ok tt) after value e = refl
accepted (Err refusal) after value e = absurd (cc)

pub few-channels : (exps ends : List ℕ) (table : List (List ExponentSet)) → selected exps ends ≡ Ok table → length ends ≤ 6
unfolding selected
few-channels exps ends table e = (selectable exps ends (accepted (select_check exps ends) _ table e)).few
