-- The Rust's `quantise_exponents_to_grpsize`, pass by pass: what a comparison with it rests on, and nothing else does. Where its answer is that of
-- Spans.antt is shown in RustLaws.antt (`as-the-rust`). A span of h + 1 bins is named by h.
use Rattle.std.specs.Prelude.{cond, List, [], ◌∷◌, ◌++◌, ℕ, zero, suc, ltb, get_or, drop, replicate}
use Rattle.shaping.specs.D15.{roof, held, first}
use Rattle.shaping.specs.Strategies.{merged}

-- ---- the backward pass. The Rust starts it at n - span, so here spans are counted from the last bin on, and where the last span is short they
-- are not the spans that pass 1 (`merged`) made one value of

-- one bin less to come, or, where none was, a new span: h more
abbrev pub count_down : ℕ → ℕ → ℕ
count_down h zero = h
count_down h (suc c) = c

-- how many bins the span at the front of a list lacks, spans counted from the end
unfoldable pub lacks : ℕ → List ℕ → ℕ
lacks h [] = 0
lacks h (x ∷ r) = count_down h (lacks h r)

-- the span at the front of l, as a whole under the first bin of what follows it
abbrev pub lowered : ℕ → List ℕ → List ℕ → List ℕ
lowered h l [] = l
lowered h l (y ∷ r) = cond (ltb (roof y) (get_or l 0 0)) (replicate (suc h) (roof y) ++ y ∷ r) l

-- the same where c, the bins that the span at the front lacks, is 0; else there is no whole span yet
abbrev pub front_lowered : ℕ → ℕ → List ℕ → List ℕ
front_lowered h zero l = lowered h l (drop (suc h) l)
front_lowered h (suc c) l = l

-- the whole pass, from the last bin on
unfoldable pub lower_spans : ℕ → List ℕ → List ℕ
lower_spans h [] = []
lower_spans h (x ∷ r) = front_lowered h (count_down h (lacks h r)) (x ∷ lower_spans h r)

-- ---- the forward pass after a bin that became p, of whose span j bins are still to come: each span becomes one value within 2 of the last
unfoldable pub forward_spans : ℕ → ℕ → ℕ → List ℕ → List ℕ
forward_spans h j p [] = []
forward_spans h zero p (x ∷ r) = held p x ∷ forward_spans h h (held p x) r
forward_spans h (suc j) p (x ∷ r) = p ∷ forward_spans h j p r

-- bin 0, then the forward pass from bin 1 on
unfoldable pub led : ℕ → List ℕ → List ℕ
led h [] = []
led h (x ∷ r) = first 15 x r ∷ forward_spans h 0 (first 15 x r) r

-- the three passes; with a span of 1, or one bin alone, all stays
unfoldable pub rust_spanned : ℕ → List ℕ → List ℕ
rust_spanned zero xs = xs
rust_spanned (suc h) [] = []
rust_spanned (suc h) (x ∷ []) = x ∷ []
rust_spanned (suc h) (x ∷ y ∷ r) = led (suc h) (x ∷ lower_spans (suc h) (merged (suc h) 0 0 (y ∷ r)))
