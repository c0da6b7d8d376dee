-- The bands of a channel with bins 0 .. end - 1, one after the other, as the loops over bands count them.
use Rattle.std.specs.Prelude.{ℕ, ◌+◌, ◌≤◌, ◌<◌, ◌≡◌}
use Rattle.tables.specs.Bands.{bndtab}
use Rattle.tables.specs.Entry.{entry}

-- n bands have bins below end: n is A/52's bndend
pub record Bands (end n : ℕ) : Type 0 where
  pub few : n ≤ 50
  pub each : (k : ℕ) → k < n → entry bndtab k < end
  pub last : n < 50 → end ≤ entry bndtab n

-- the band starts at the bin, unless that is end
abbrev pub Starts : ℕ → ℕ → ℕ → Type 0
Starts end band bin = bin < end → (band < 50) × (bin ≡ entry bndtab band)

-- the band has a bin, and the next band starts where it ends
pub record NextBin (end band bin next : ℕ) : Type 0 where
  pub least : bin < next
  pub middle : next ≤ end
  pub next-band : Starts end (band + 1) next
  pub none_left : end ≤ next → band + 1 < 50 → end ≤ entry bndtab (band + 1)
