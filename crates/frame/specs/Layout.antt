-- A frame under the settings of a sheet (document 01, "The track sheet", "The frame body"): the parts of its buffers. What a buffer holds of one
-- block is a row: C parts of 256 entries each.
use Rattle.std.specs.Prelude.{ℕ, ◌-◌, ◌*◌, ◌<◌, ◌≡◌, List, ◌++◌, take, drop, replicate}
use Rattle.bits.specs.Parts.{joined, piece}
use Rattle.elements.specs.declared.set.ExponentSet.{ExponentSet}
use Rattle.elements.specs.declared.set.ExponentSet.TheVariants.{Reuse, New}
use Rattle.elements.specs.declared.strategy.Strategy.{Strategy}
use Rattle.sheet.specs.Layout.{part_start}
use Rattle.sheet.specs.Settings.{channels, end_at}
use Rattle.sheet.specs.declared.settings.Settings.{Settings}

-- one thing where a block is reuse, another, by the strategy, where it has a new set
unfoldable pub by_set : {A : Type 0} → ExponentSet → A → (Strategy → A) → A
by_set Reuse reused new = reused
by_set (New strategy) reused new = new strategy

-- the row of block b. Its part c starts at 256 × (C × block + channel) of the buffer: LayoutLaws, `part-starts`
unfoldable pub row_of : Settings → ℕ → List ℕ → List ℕ
row_of settings b l = piece (256 * channels settings) b l

-- a part as it is compared and written: its entries below end; those from end on are ignored when read and written as 0
unfoldable pub clean : ℕ → List ℕ → List ℕ
clean end part = take end part ++ replicate (256 - end) 0

-- a row whose parts are all as they are compared and written
unfoldable pub clean_row : Settings → List ℕ → List ℕ
clean_row settings row = joined (channels settings) (λ c. clean (end_at settings c) (piece 256 c row))

-- a buffer as it is compared and written
unfoldable pub cleaned : Settings → List ℕ → List ℕ
cleaned settings l = joined 6 (λ b. clean_row settings (row_of settings b l))

-- a buffer of 6 × C × 256 entries: six blocks, each of C parts
unfoldable pub framed : Settings → (ℕ → ℕ → List ℕ) → List ℕ
framed settings part = joined 6 (λ b. joined (channels settings) (part b))

-- a channel's entries of block b of a buffer, "the bins below end"; they start where its part of the buffer does
unfoldable pub below_end : {A : Type 0} → Settings → ℕ → ℕ → List A → List A
below_end settings b c l = take (end_at settings c) (drop (part_start (channels settings) b c) l)

-- two buffers that hold the same below each end: that is how frames are compared
pub record SameBelowEnds (settings : Settings) (l other : List ℕ) : Type 0 where
  pub part : (b c : ℕ) → b < 6 → c < channels settings
      → take (end_at settings c) (piece 256 c (row_of settings b l)) ≡ take (end_at settings c) (piece 256 c (row_of settings b other))
