-- Where a writer stands that was closed with zero bits to the byte (document 01, `BitWriter`).
use Rattle.std.specs.Prelude.{ℕ}
use Rattle.bits.specs.declared.write.Writer.{Writer}

-- n bytes are out, and no bits wait
abbrev pub closed_at : ℕ → Writer
closed_at n = record { at = n; acc = 0; count = 0 }
