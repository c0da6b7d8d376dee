-- What the code promises inside: where a channel's part of a buffer starts.
use Rattle.std.specs.Prelude.{ℕ, ◌+◌, ◌≤◌, ◌≡◌}
use Rattle.sheet.specs.Layout.{buffer_length, part_start}

-- r is where the part of a channel starts, and the part lies within the buffer
pub record PartStart (channels block channel r : ℕ) : Type 0 where
  pub is : r ≡ part_start channels block channel
  pub within : r + 256 ≤ buffer_length channels
