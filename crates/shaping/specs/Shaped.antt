-- "Shaped for a strategy, on bins below end: first at most 15, all at most 24, constant on spans from bin 1, neighbouring spans (bin 0
-- included) within 2" (document 01, "Exponents"; A/52 7.1.3: a set is a 4-bit value and differences of -2..2 from span to span).
-- A strategy is named by h, its span less 1: h bins follow the first of a span. D15 is h = 0, D25 is h = 1, D45 is h = 3.
use Rattle.std.specs.Prelude.{Bool, true, ◌&&◌, List, [], ◌∷◌, ℕ, zero, suc, ◌+◌, leb, eqb}

-- the exponents after a bin that holds p, of whose span j bins are still to come: those are p again; the first bin of the next span is
-- within 2 of p, and at most 24
unfoldable pub follows : ℕ → ℕ → ℕ → List ℕ → Bool
follows h j p [] = true
follows h zero p (x ∷ r) = leb x (p + 2) && (leb p (x + 2) && (leb x 24 && follows h h x r))
follows h (suc j) p (x ∷ r) = eqb x p && follows h j p r

-- bin 0 is at most 15 and stands alone: the spans start at bin 1
unfoldable pub shaped_for : ℕ → List ℕ → Bool
shaped_for h [] = true
shaped_for h (x ∷ r) = leb x 15 && follows h 0 x r
