-- The one entry holds what is returned.
use Rattle.std.proofs.Common.{◌≡◌, List, [], ◌∷◌, length, slice_set, refl, arith}
use Rattle.host.specs.Entries.{returned}
use Rattle.host.proofs.results.return_one.Goals as goal

one : {A : Type 0} (slot : List A) (value : A) → length slot ≡ 1 → slice_set slot 0 value ≡ returned 1 (value ∷ []) slot
unfolding returned
one [] value h = absurd (omega arith)
one (x ∷ []) value h = refl
one (x ∷ y ∷ slot) value h = absurd (omega arith)

pub returns-then-slot-eq1 : goal.returns-then-slot-eq1
returns-then-slot-eq1 g c = one c.args.slot.now c.args.value c.if-slot-eq1.true
