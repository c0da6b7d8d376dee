-- What document 01's formula of a block's bits is made of (demand 3): "4 + 7g" for a new set, thirds and halves rounded up.
use Rattle.std.specs.Prelude.{ℕ, ◌+◌, ◌*◌, ◌/◌}
use Rattle.elements.specs.declared.set.ExponentSet.{ExponentSet}
use Rattle.elements.specs.declared.set.ExponentSet.TheVariants.{Reuse, New}
use Rattle.elements.specs.Strategy.{grpsize}
use Rattle.exponents.specs.Groups.{span_count}

-- a third and a half, rounded up
abbrev pub third : ℕ → ℕ
third n = (n + 2) / 3

abbrev pub half : ℕ → ℕ
half n = (n + 1) / 2

-- the exponent bits of a channel's block: none where it reuses the earlier ones; else g is a third of the spans coded after the 4 bits
unfoldable pub set_count : ExponentSet → ℕ → ℕ
set_count Reuse end = 0
set_count (New strategy) end = 4 + 7 * third (span_count end (grpsize strategy))
