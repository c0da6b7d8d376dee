-- What `quantise_exponents_to_grpsize` leaves (document 02, W4; A/52 7.1.3): the first exponent and the least of each span are shaped as D15 is,
-- then each stands in all bins of its span. That it is "the greatest legal one for every length from 2" is shown in ShapedLaws.antt:
-- `quantised-greatest`, `quantised-only`.
-- A strategy is named by h, its span less 1: h bins follow the first of a span. Of the span of the first bin k more bins follow: none in a channel,
-- whose bin 0 stands alone; h where spans start at the first bin.
use Rattle.std.specs.Prelude.{List, [], ◌∷◌, ◌++◌, ℕ, zero, suc, min, length, take, replicate}
use Rattle.shaping.specs.D15.{limited}

-- the least of m and the next j entries, or as many as there are
unfoldable pub least : ℕ → ℕ → List ℕ → ℕ
least zero m r = m
least (suc j) m [] = m
least (suc j) m (y ∷ r) = least j (min m y) r

-- the least of each span, after a bin of whose span j bins are still to come; the last span may be short
unfoldable pub leasts : ℕ → ℕ → List ℕ → List ℕ
leasts h j [] = []
leasts h zero (x ∷ r) = least h x r ∷ leasts h h r
leasts h (suc j) (x ∷ r) = leasts h j r

-- the same from the first bin on
unfoldable pub span_leasts : ℕ → ℕ → List ℕ → List ℕ
span_leasts h k [] = []
span_leasts h k (x ∷ r) = least k x r ∷ leasts h k r

-- each of vs g times
unfoldable pub copies : ℕ → List ℕ → List ℕ
copies g [] = []
copies g (v ∷ vs) = replicate g v ++ copies g vs

-- each of vs in all bins of its span; there are n bins
unfoldable pub spread : ℕ → ℕ → ℕ → List ℕ → List ℕ
spread h k n [] = []
spread h k n (v ∷ vs) = take n (replicate (suc k) v ++ copies (suc h) vs)

-- exponents shared by spans, the first at most its limit
unfoldable pub shared : ℕ → ℕ → ℕ → List ℕ → List ℕ
shared limit h k xs = spread h k (length xs) (limited limit (span_leasts h k xs))

-- what `quantise_exponents_to_grpsize` leaves: with a span of 1, or one bin alone, all stays; else bin 0 is at most 15, which 4 bits hold
unfoldable pub spanned : ℕ → List ℕ → List ℕ
spanned zero xs = xs
spanned (suc h) [] = []
spanned (suc h) (x ∷ []) = x ∷ []
spanned (suc h) (x ∷ y ∷ r) = shared 15 (suc h) 0 (x ∷ y ∷ r)
