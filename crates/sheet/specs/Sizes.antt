-- The most that a frame under any sheet can have: the sizes of what the code holds by value (sheet/src/layout.rt).
use Rattle.std.specs.Prelude.{ℕ, ◌*◌}

-- channels
abbrev pub most_channels : ℕ
most_channels = 6

-- entries of a row, C parts of 256
abbrev pub most_row : ℕ
most_row = 256 * most_channels

-- entries of a buffer, six rows
abbrev pub most_buffer : ℕ
most_buffer = most_row * 6
