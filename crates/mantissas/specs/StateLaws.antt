-- Laws of what is kept for each bap, and how the code keeps it.
use Rattle.std.specs.Prelude.{◌≡◌, refl, List, ℕ, get_or}
use Rattle.std.proofs.Common.{eq-eqb, ne_eqb}
use Rattle.mantissas.specs.State.{update}

pub update_same : {A : Type 0} (s : ℕ → A) (b : ℕ) (x : A) → update s b x b ≡ x
unfolding update
update_same s b x = rw (eq-eqb b b refl)

pub update_other : {A : Type 0} (s : ℕ → A) (b k : ℕ) (x : A) → (k ≡ b → ⊥) → update s b x k ≡ s k
unfolding update
update_other s b k x h = rw (ne_eqb k b h)

-- numbers for each bap, in an array
unfoldable pub at : List ℕ → ℕ → ℕ
at l k = get_or l k 0
