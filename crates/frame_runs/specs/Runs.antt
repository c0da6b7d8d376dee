-- The exponents of a frame, from its coefficients (document 01, "The frame body"): "A run is a new block and the reuse blocks after it.
-- Its exponents: pointwise least of the extracted ones, `preprocess_d15`, then the strategy's span, all on the bins below end."
use Rattle.std.specs.Prelude.{ℕ, zero, suc, ◌-◌, min, List, [], ◌∷◌, ◌++◌, Float, replicate}
use Rattle.elements.specs.Strategy.{grpsize}
use Rattle.elements.specs.declared.strategy.Strategy.{Strategy}
use Rattle.frame.specs.Layout.{by_set, below_end, framed}
use Rattle.shaping.specs.Extract.{exponent_of}
use Rattle.shaping.specs.Passes.{preprocessed, quantised}
use Rattle.sheet.specs.Settings.{end_at, set_at}
use Rattle.sheet.specs.declared.settings.Settings.{Settings}

-- "the extracted ones": `extract_exponent` of each coefficient
unfoldable pub exponents_of : List Float → List ℕ
exponents_of [] = []
exponents_of (x ∷ xs) = exponent_of x ∷ exponents_of xs

-- "pointwise least" of two blocks' exponents
unfoldable pub least_of : List ℕ → List ℕ → List ℕ
least_of [] ys = []
least_of (x ∷ xs) [] = []
least_of (x ∷ xs) (y ∷ ys) = min x y ∷ least_of xs ys

-- the pointwise least of `least` and the exponents of "the reuse blocks after it": those from block b on, up to the next new block, of
-- the `left` blocks that are left
unfoldable pub least_from : Settings → List Float → ℕ → ℕ → ℕ → List ℕ → List ℕ
least_from settings coeffs c zero b least = least
least_from settings coeffs c (suc left) b least =
    by_set (set_at settings b c) (least_from settings coeffs c left (suc b) (least_of least (exponents_of (below_end settings b c coeffs)))) (λ strategy. least)

-- the pointwise least of all blocks of a channel's run that begins with block b, a new one
unfoldable pub run_least : Settings → List Float → ℕ → ℕ → List ℕ
run_least settings coeffs b c = least_from settings coeffs c (5 - b) (suc b) (exponents_of (below_end settings b c coeffs))

-- "`preprocess_d15`, then the strategy's span": what the two calls leave (shaping/specs/Passes.antt)
unfoldable pub run_exponents : Settings → List Float → ℕ → ℕ → Strategy → List ℕ
run_exponents settings coeffs b c strategy = quantised (grpsize strategy) (preprocessed (run_least settings coeffs b c))

-- a channel's part of block b with a new set of this strategy: "entries from end on are .. written as 0"
unfoldable pub run_part : Settings → List Float → ℕ → ℕ → Strategy → List ℕ
run_part settings coeffs b c strategy = run_exponents settings coeffs b c strategy ++ replicate (256 - end_at settings c) 0

-- a channel's part of block b: "reuse blocks repeat the earlier exponents"; "block 0 is never reuse", else it would repeat zeros
unfoldable pub part_at : Settings → List Float → ℕ → ℕ → List ℕ
part_at settings coeffs zero c = by_set (set_at settings 0 c) (replicate 256 0) (run_part settings coeffs 0 c)
part_at settings coeffs (suc b) c = by_set (set_at settings (suc b) c) (part_at settings coeffs b c) (run_part settings coeffs (suc b) c)

-- the exponents of all six blocks
unfoldable pub exps_of : Settings → List Float → List ℕ
exps_of settings coeffs = framed settings (part_at settings coeffs)
