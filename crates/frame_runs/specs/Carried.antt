-- The exponents block by block as the code carries them from one to the next: a row holds those of the block before, and a reuse block
-- leaves its part.
use Rattle.std.specs.Prelude.{ℕ, zero, suc, ◌*◌, List, Float, take, replicate}
use Rattle.bits.specs.Parts.{joined, piece}
use Rattle.sheet.specs.Settings.{channels, set_at}
use Rattle.sheet.specs.Sizes.{most_row}
use Rattle.sheet.specs.declared.settings.Settings.{Settings}
use Rattle.frame.specs.Layout.{by_set}
use Rattle.frame_runs.specs.Runs.{run_part, part_at}

-- a channel's part of block b, after the part `old` of the block before
unfoldable pub next_part : Settings → List Float → ℕ → ℕ → List ℕ → List ℕ
next_part settings coeffs b c old = by_set (set_at settings b c) old (run_part settings coeffs b c)

-- and the parts of all channels
unfoldable pub next_row : Settings → List Float → ℕ → List ℕ → List ℕ
next_row settings coeffs b old = joined (channels settings) (λ c. next_part settings coeffs b c (piece 256 c old))

-- the row of block b
unfoldable pub row_at : Settings → List Float → ℕ → List ℕ
row_at settings coeffs b = joined (channels settings) (part_at settings coeffs b)

-- the row that is carried when block b begins; block 0 leaves nothing of what was there before it
unfoldable pub row_before : Settings → List Float → ℕ → List ℕ
row_before settings coeffs zero = take (256 * channels settings) (replicate most_row 0)
row_before settings coeffs (suc b) = row_at settings coeffs b
