-- Where each channel's part of the buffers stands, document 01, "The track sheet".
use Rattle.std.specs.Prelude.{ℕ, ◌+◌, ◌*◌}

-- "Coefficients, exponents, bap and codes are buffers of 6 × C × 256 entries."
abbrev pub buffer_length : ℕ → ℕ
buffer_length channels = 6 * channels * 256

-- "A channel's part starts at 256 × (C × block + channel)."
abbrev pub part_start : ℕ → ℕ → ℕ → ℕ
part_start channels block channel = 256 * (channels * block + channel)
