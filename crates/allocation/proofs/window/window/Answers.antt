-- 111 zeros, BAPTAB, and 15 from its end on.
use Rattle.std.proofs.Common.{List, [], ◌++◌, ◌≡◌, ℕ, replicate, ◌∙◌}
use Rattle.tables.specs.Quantizer.{baptab}
use Rattle.allocation.specs.Held.{window}
use Rattle.allocation.proofs.window.window.Goals as goal

laid : (table tail : List ℕ) → table ≡ baptab → tail ≡ replicate 97 15 → replicate 111 0 ++ (table ++ (tail ++ [])) ≡ window
unfolding window
laid table tail e f = rw (e, f)

pub returns : goal.returns
returns c = laid _ _ (c.copy_from_slice.ensures.after ∙ c.baptab.ensures) (c.fill.ensures.after (λ y e. e))
