-- Shaped, as a type: `shaped_for` of Shaped.antt holds exactly there (`shaped-yes`, `shaped_of` in ShapedLaws.antt). And "the pointwise greatest
-- sequence not above the input" that is shaped (document 01, "Exponents").
use Rattle.std.specs.Prelude.{◌≡◌, List, [], ◌∷◌, ℕ, zero, suc, ◌+◌, ◌≤◌}

-- the exponents after a bin that holds p, of whose span j bins are still to come: those are p again; the first bin of the next span is
-- within 2 of p, and at most 24
abbrev pub Follows : ℕ → ℕ → ℕ → List ℕ → Type 0
Follows h j p [] = Unit {0}
Follows h zero p (x ∷ r) = (x ≤ p + 2) × (p ≤ x + 2) × (x ≤ 24) × Follows h h x r
Follows h (suc j) p (x ∷ r) = (x ≡ p) × Follows h j p r

-- the first bin is at most its limit, and k more bins of its span follow it
abbrev pub ShapedFrom : ℕ → ℕ → ℕ → List ℕ → Type 0
ShapedFrom limit h k [] = Unit {0}
ShapedFrom limit h k (x ∷ r) = (x ≤ limit) × Follows h k x r

-- bin 0 is at most 15 and stands alone: the spans start at bin 1
abbrev pub Shaped : ℕ → List ℕ → Type 0
Shaped h xs = ShapedFrom 15 h 0 xs

-- "not above": of one length, and nowhere above
abbrev pub Below : List ℕ → List ℕ → Type 0
Below [] [] = Unit {0}
Below [] (y ∷ s) = ⊥
Below (x ∷ r) [] = ⊥
Below (x ∷ r) (y ∷ s) = (x ≤ y) × Below r s

-- zs is the greatest that is so shaped and not above xs
pub record Greatest (limit h k : ℕ) (xs zs : List ℕ) : Type 0 where
  pub shaped : ShapedFrom limit h k zs
  pub below : Below zs xs
  pub most : (ys : List ℕ) → ShapedFrom limit h k ys → Below ys xs → Below ys zs
