-- The starred cases of document 01, "Edges", that are exponents', the one that document 02, W4, changes among them, and the smallest inputs where
-- W4 ends equality with the Rust: the definitions compute them.
use Rattle.std.specs.Prelude.{◌≡◌, refl, false, [], ◌∷◌, map, pos, negsuc, Ok, Err}
use Rattle.std.specs.Float.{nan, inf, fin}
use Rattle.bits.specs.declared.refusal.Refusal.TheVariants as refusal
use Rattle.shaping.specs.Extract.{extracted}
use Rattle.shaping.specs.Groups.{groups_answer}
use Rattle.shaping.specs.D15.{backward, forward, limited}
use Rattle.shaping.specs.Spans.{least, leasts, span_leasts, copies, spread, shared, spanned}
use Rattle.shaping.specs.Passes.{preprocessed, quantised}
use Rattle.shaping.specs.Strategies.{merged}
use Rattle.shaping.specs.RustSpans.{lacks, lower_spans, forward_spans, led, rust_spanned}

-- 24 seven times; 9, 0, 9; 20 alone; empty
pub d15-shapes : map preprocessed ((24 ∷ 24 ∷ 24 ∷ 24 ∷ 24 ∷ 24 ∷ 24 ∷ []) ∷ (9 ∷ 0 ∷ 9 ∷ []) ∷ (20 ∷ []) ∷ [] ∷ [])
    ≡ (15 ∷ 17 ∷ 19 ∷ 21 ∷ 23 ∷ 24 ∷ 24 ∷ []) ∷ (2 ∷ 0 ∷ 2 ∷ []) ∷ (15 ∷ []) ∷ [] ∷ []
unfolding preprocessed limited backward forward
d15-shapes = refl

-- span 2: whole spans, and a short last span
pub d25-shares : map (quantised 2) ((6 ∷ 6 ∷ 6 ∷ 4 ∷ 2 ∷ []) ∷ (6 ∷ 6 ∷ 6 ∷ 4 ∷ 2 ∷ 2 ∷ []) ∷ [])
    ≡ (6 ∷ 4 ∷ 4 ∷ 2 ∷ 2 ∷ []) ∷ (6 ∷ 4 ∷ 4 ∷ 2 ∷ 2 ∷ 2 ∷ []) ∷ []
unfolding quantised spanned shared spread copies limited backward forward span_leasts leasts least
d25-shares = refl

-- a short last span after a whole one: one bin of two; one, two, three bins of four. The Rust raises the last span
pub short-lasts : (map (quantised 2) ((1 ∷ 3 ∷ 3 ∷ 0 ∷ []) ∷ []) ≡ (1 ∷ 2 ∷ 2 ∷ 0 ∷ []) ∷ [])
    × (map (quantised 4) ((1 ∷ 3 ∷ 3 ∷ 3 ∷ 3 ∷ 0 ∷ []) ∷ (1 ∷ 3 ∷ 3 ∷ 3 ∷ 3 ∷ 0 ∷ 0 ∷ []) ∷ (1 ∷ 3 ∷ 3 ∷ 3 ∷ 3 ∷ 0 ∷ 0 ∷ 0 ∷ []) ∷ [])
    ≡ (1 ∷ 2 ∷ 2 ∷ 2 ∷ 2 ∷ 0 ∷ []) ∷ (1 ∷ 2 ∷ 2 ∷ 2 ∷ 2 ∷ 0 ∷ 0 ∷ []) ∷ (1 ∷ 2 ∷ 2 ∷ 2 ∷ 2 ∷ 0 ∷ 0 ∷ 0 ∷ []) ∷ [])
unfolding quantised spanned shared spread copies limited backward forward span_leasts leasts least
short-lasts = (refl, refl)

pub short-lasts-of-the-rust : (map (rust_spanned 1) ((1 ∷ 3 ∷ 3 ∷ 0 ∷ []) ∷ (6 ∷ 6 ∷ 6 ∷ 4 ∷ 2 ∷ 2 ∷ []) ∷ []) ≡ (1 ∷ 3 ∷ 3 ∷ 1 ∷ []) ∷ (6 ∷ 6 ∷ 6 ∷ 4 ∷ 4 ∷ 2 ∷ []) ∷ [])
    × (map (rust_spanned 3) ((1 ∷ 3 ∷ 3 ∷ 3 ∷ 3 ∷ 0 ∷ []) ∷ (1 ∷ 3 ∷ 3 ∷ 3 ∷ 3 ∷ 0 ∷ 0 ∷ []) ∷ (1 ∷ 3 ∷ 3 ∷ 3 ∷ 3 ∷ 0 ∷ 0 ∷ 0 ∷ []) ∷ [])
    ≡ (1 ∷ 3 ∷ 3 ∷ 3 ∷ 3 ∷ 1 ∷ []) ∷ (1 ∷ 3 ∷ 3 ∷ 3 ∷ 3 ∷ 1 ∷ 1 ∷ []) ∷ (1 ∷ 3 ∷ 3 ∷ 3 ∷ 3 ∷ 1 ∷ 1 ∷ 1 ∷ []) ∷ [])
unfolding rust_spanned led forward_spans lower_spans lacks merged least
short-lasts-of-the-rust = (refl, refl)

-- D15, D25 and D45 at the ends 253 and 40
pub groups-at-ends : (map (groups_answer 253) (1 ∷ 2 ∷ 4 ∷ []) ≡ Ok 84 ∷ Ok 42 ∷ Ok 21 ∷ [])
    × (map (groups_answer 40) (1 ∷ 2 ∷ 4 ∷ []) ≡ Ok 13 ∷ Ok 7 ∷ Ok 4 ∷ [])
unfolding groups_answer
groups-at-ends = (refl, refl)

-- 2^-10 - 2^-34, 2^-25 and 1; what is not finite is refused
pub exponents-of : map extracted (fin false 16777215 (negsuc 33) ∷ fin false 1 (negsuc 24) ∷ fin false 1 (pos 0) ∷ inf false ∷ nan ∷ [])
    ≡ Ok 10 ∷ Ok 24 ∷ Ok 0 ∷ Err refusal.NotFinite ∷ Err refusal.NotFinite ∷ []
unfolding extracted
exponents-of = refl
