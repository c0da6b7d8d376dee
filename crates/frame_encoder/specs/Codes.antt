-- The codes of a frame (document 01, "The frame body"): "its bap is the allocation of these exponents, and its codes are
-- `quantise_mantissa` of each coefficient below end at that bin's exponent and bap".
use Rattle.std.specs.Prelude.{ℕ, ◌-◌, List, [], ◌∷◌, ◌++◌, Float, replicate}
use Rattle.sheet.specs.Settings.{end_at}
use Rattle.sheet.specs.declared.settings.Settings.{Settings}
use Rattle.frame.specs.Body.{baps_of}
use Rattle.frame.specs.Layout.{below_end, framed}
use Rattle.frame_runs.specs.Runs.{exps_of}
use Rattle.quantiser.specs.Code.{code_of}

-- `quantise_mantissa` of each coefficient at that bin's exponent and bap
unfoldable pub codes_for : List Float → List ℕ → List ℕ → List ℕ
codes_for [] exps bap = []
codes_for (x ∷ xs) [] bap = []
codes_for (x ∷ xs) (k ∷ exps) [] = []
codes_for (x ∷ xs) (k ∷ exps) (b ∷ bap) = code_of x k b ∷ codes_for xs exps bap

-- a channel's part of block b: the codes of its coefficients below end; "entries from end on are .. written as 0"
unfoldable pub code_part : Settings → List Float → List ℕ → List ℕ → ℕ → ℕ → List ℕ
code_part settings coeffs exps bap b c =
    codes_for (below_end settings b c coeffs) (below_end settings b c exps) (below_end settings b c bap) ++ replicate (256 - end_at settings c) 0

-- the codes of all six blocks at these exponents and baps
unfoldable pub codes_at : Settings → List Float → List ℕ → List ℕ → List ℕ
codes_at settings coeffs exps bap = framed settings (code_part settings coeffs exps bap)

-- the frame's codes: at the exponents of its runs and "the allocation of these exponents"
unfoldable pub codes_of : Settings → List Float → List ℕ
codes_of settings coeffs = codes_at settings coeffs (exps_of settings coeffs) (baps_of settings (exps_of settings coeffs))
