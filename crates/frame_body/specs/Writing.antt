-- What the writer of a body asks of a channel's part and of a block: a new set is shaped for its span (document 01, "Exponents"). And the
-- bins that it writes: those below each end; the exponent bits of a block; and the counts.
use Rattle.std.specs.Prelude.{ℕ, ◌-◌, ◌<◌, ◌≡◌, List, ◌++◌, take}
use Rattle.bits.specs.Parts.{joined, piece, tab}
use Rattle.elements.specs.declared.set.ExponentSet.{ExponentSet}
use Rattle.elements.specs.declared.set.ExponentSet.TheVariants.{New}
use Rattle.elements.specs.Strategy.{grpsize}
use Rattle.elements.specs.declared.strategy.Strategy.{Strategy}
use Rattle.shaping.specs.Greatest.{Shaped}
use Rattle.sheet.specs.Settings.{channels, end_at, set_at}
use Rattle.sheet.specs.declared.settings.Settings.{Settings}
use Rattle.mantissas.specs.Blocks.{block_baps}
use Rattle.mantissas.specs.Formula.{sum}
use Rattle.mantissas.specs.Inner.{Below}
use Rattle.mantissas.specs.Stream.{bit_count}
use Rattle.frame_body.specs.Counts.{set_count}

-- a new set is shaped for its span below end
pub record NewSet (set : ExponentSet) (end : ℕ) (part : List ℕ) : Type 0 where
  pub shaped : (strategy : Strategy) → set ≡ New strategy → Shaped (grpsize strategy - 1) (take end part)

-- the sets of block b
pub record NewSets (settings : Settings) (b : ℕ) (row : List ℕ) : Type 0 where
  pub part : (c : ℕ) → c < channels settings → NewSet (set_at settings b c) (end_at settings c) (piece 256 c row)

-- the bins of channel c below its end
abbrev pub lows : {A : Type 0} → Settings → List A → ℕ → List A
lows settings row c = take (end_at settings c) (piece 256 c row)

-- the entries of a row below each end, one channel's behind the other's (document 01, "The track sheet": "Entries from end on are ignored")
unfoldable pub below_ends : {A : Type 0} → Settings → List A → List A
below_ends settings row = joined (channels settings) (lows settings row)

-- the exponent bits of block b by their formula
unfoldable pub sets_count : Settings → ℕ → ℕ
sets_count settings b = sum (λ c. set_count (set_at settings b c) (end_at settings c)) (channels settings)

-- ---- the twelve counts from the baps alone

-- every bap of the six blocks below the ends is at most 15
pub record BapsFit (settings : Settings) (bap : List ℕ) : Type 0 where
  pub block : (b : ℕ) → b < 6 → Below 16 (block_baps settings bap b)

unfoldable pub counts_from : Settings → List ℕ → List ℕ
counts_from settings bap = tab 6 (sets_count settings) ++ tab 6 (λ b. bit_count (block_baps settings bap b))
