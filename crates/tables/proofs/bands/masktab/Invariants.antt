-- No band before the present one holds the bin, so it starts at the bin or before it; behind the last band the bin is 253 or more.
use Prim.Native.Nat.{ℕ, ◌≤◌, ◌<◌}
use Rattle.tables.specs.Entry.{entry}
use Rattle.tables.specs.Bands.{bndtab}
use Rattle.tables.proofs.bands.masktab.Given as goal

abbrev pub Reached : ℕ → ℕ → Type 0
Reached bin band = (band < 50 → entry bndtab band ≤ bin) × (50 ≤ band → 253 ≤ bin)

abbrev pub invariant-loop-band : goal.invariant-loop-band
invariant-loop-band l = Reached l.bin l.band
