-- Something for each bap, as the writer, the count and the reader keep it: a function of the bap, changed at one place.
use Rattle.std.specs.Prelude.{cond, ℕ, eqb}

-- x at b, as before elsewhere
unfoldable pub update : {A : Type 0} → (ℕ → A) → ℕ → A → ℕ → A
update s b x k = cond (eqb k b) x (s k)
