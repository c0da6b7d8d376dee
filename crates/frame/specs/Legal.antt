-- The frames that a body can hold under settings (document 01, "When a call is turned back", causes 4 and 5): each new set shaped
-- for its strategy, each reuse block's exponents those of the block before, below end; each code one of its bap's.
use Rattle.std.specs.Prelude.{ℕ, ◌-◌, ◌≡◌, Bool, true, false, cond, List, [], ◌∷◌, eqb, take}
use Rattle.bits.specs.Parts.{piece}
use Rattle.elements.specs.declared.set.ExponentSet.{ExponentSet}
use Rattle.elements.specs.declared.set.ExponentSet.TheVariants.{Reuse, New}
use Rattle.elements.specs.Strategy.{grpsize}
use Rattle.mantissas.specs.Stream.{coded}
use Rattle.shaping.specs.Shaped.{shaped_for}
use Rattle.sheet.specs.Ranges.{all_below}
use Rattle.sheet.specs.Settings.{channels, end_at, set_at}
use Rattle.sheet.specs.declared.settings.Settings.{Settings}
use Rattle.frame.specs.Layout.{row_of, clean_row}
use Rattle.frame.specs.Body.{bap_row}
use Rattle.frame.specs.Reader.{earlier}

-- two lists are the same
unfoldable pub alike : List ℕ → List ℕ → Bool
alike [] [] = true
alike [] (y ∷ ys) = false
alike (x ∷ xs) [] = false
alike (x ∷ xs) (y ∷ ys) = cond (eqb x y) (alike xs ys) false

-- a channel's exponents in a block, below end: those of the block before (`old`) where it is reuse, else shaped for the strategy's span,
-- which `shaped_for` is given less 1
unfoldable pub part_legal : ExponentSet → ℕ → List ℕ → List ℕ → Bool
part_legal Reuse end old part = alike (take end old) (take end part)
part_legal (New strategy) end old part = shaped_for (grpsize strategy - 1) (take end part)

-- the exponents of block b, after the row `old` of the block before
unfoldable pub row_legal : Settings → ℕ → List ℕ → List ℕ → Bool
row_legal settings b old row = all_below (channels settings) (λ c. part_legal (set_at settings b c) (end_at settings c) (piece 256 c old) (piece 256 c row))

-- the exponents of all six blocks; else cause 4
unfoldable pub exps_legal : Settings → List ℕ → Bool
exps_legal settings exps = all_below 6 (λ b. row_legal settings b (earlier settings exps b) (row_of settings b exps))

-- the codes of all six blocks below each end, each in the range of its bap; else cause 5
unfoldable pub codes_legal : Settings → List ℕ → List ℕ → Bool
codes_legal settings exps codes = all_below 6 (λ b. coded (bap_row settings (row_of settings b exps)) (clean_row settings (row_of settings b codes)))

-- a legal frame: exponents and codes that neither cause turns back
pub record LegalFrame (settings : Settings) (exps codes : List ℕ) : Type 0 where
  pub shaped : exps_legal settings exps ≡ true
  pub coded : codes_legal settings exps codes ≡ true
