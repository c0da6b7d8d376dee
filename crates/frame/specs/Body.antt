-- The bits of a frame's body (document 01, "The frame body"; A/52 5.4.3): block by block, the new exponent sets by channel number, then
-- all mantissas by channel number and bin. The zero bits to the byte are left off.
use Rattle.std.specs.Prelude.{ℕ, ◌+◌, Bool, List, [], ◌∷◌, ◌++◌, length, take}
use Rattle.bits.specs.Parts.{joined, piece, tab}
use Rattle.allocation.specs.Allocation.{allocated}
use Rattle.elements.specs.declared.set.ExponentSet.{ExponentSet}
use Rattle.elements.specs.declared.set.ExponentSet.TheVariants.{Reuse, New}
use Rattle.elements.specs.Strategy.{grpsize}
use Rattle.exponents.specs.Groups.{exponent_bits}
use Rattle.mantissas.specs.Stream.{stream}
use Rattle.sheet.specs.Settings.{channels, record_at, end_at, set_at}
use Rattle.sheet.specs.declared.settings.Settings.{Settings}
use Rattle.frame.specs.Layout.{row_of, clean_row}

-- a channel's exponent set in a block (A/52 7.1.3): no bits where the block reuses the earlier one
unfoldable pub set_bits : ExponentSet → ℕ → List ℕ → List Bool
set_bits Reuse end part = []
set_bits (New strategy) end part = exponent_bits (grpsize strategy) (take end part)

-- the new exponent sets of block b, by channel number
unfoldable pub sets_bits : Settings → ℕ → List ℕ → List Bool
sets_bits settings b row = joined (channels settings) (λ c. set_bits (set_at settings b c) (end_at settings c) (piece 256 c row))

-- the bap of a channel: the allocation of these exponents by its record and the common part (A/52 7.2.2);
-- 256 entries, 0 from end on
unfoldable pub bap_part : Settings → ℕ → List ℕ → List ℕ
bap_part settings c part = allocated settings.common (record_at settings c).codes (end_at settings c) part 256

-- the bap of a block
unfoldable pub bap_row : Settings → List ℕ → List ℕ
bap_row settings row = joined (channels settings) (λ c. bap_part settings c (piece 256 c row))

-- the bap of all six blocks, each the allocation of its block's exponents
unfoldable pub baps_of : Settings → List ℕ → List ℕ
baps_of settings exps = joined 6 (λ b. bap_row settings (row_of settings b exps))

-- all mantissas of a block by channel number and bin, one stream (A/52 7.3): a group runs on from channel to channel and never crosses
-- blocks. Bins from an end on have bap 0 and no bits.
unfoldable pub mantissa_bits : Settings → List ℕ → List ℕ → List Bool
mantissa_bits settings row codes = stream (bap_row settings row) (clean_row settings codes)

-- block b: its sets, then its mantissas
unfoldable pub block_bits : Settings → ℕ → List ℕ → List ℕ → List Bool
block_bits settings b row codes = sets_bits settings b row ++ mantissa_bits settings row codes

-- the body: the six blocks
unfoldable pub body_bits : Settings → List ℕ → List ℕ → List Bool
body_bits settings exps codes = joined 6 (λ b. block_bits settings b (row_of settings b exps) (row_of settings b codes))

-- how many exponent bits, and how many mantissa bits, each of the first k blocks has
unfoldable pub exponent_counts : Settings → List ℕ → ℕ → List ℕ
exponent_counts settings exps k = tab k (λ b. length (sets_bits settings b (row_of settings b exps)))

unfoldable pub mantissa_counts : Settings → List ℕ → List ℕ → ℕ → List ℕ
mantissa_counts settings exps codes k = tab k (λ b. length (mantissa_bits settings (row_of settings b exps) (row_of settings b codes)))

-- the twelve counts that come with a body: exponent bits by block, then mantissa bits by block
unfoldable pub counts_of : Settings → List ℕ → List ℕ → List ℕ
counts_of settings exps codes = exponent_counts settings exps 6 ++ mantissa_counts settings exps codes 6

-- the sum of counts
unfoldable pub total : List ℕ → ℕ
total [] = 0
total (x ∷ xs) = x + total xs
