-- A local array for the frames of the most channels, as it begins.
use Prim.Native.Nat.{ℕ}
use mathlib.Core.List.{List}
use mathlib.Core.Path.{◌≡◌}
use lib.ListN.{length, replicate}
use Rattle.std.proofs.lemmas.List.{length-replicate}
use Rattle.sheet.specs.Sizes.{most_buffer}

abbrev pub zeros : List ℕ
zeros = replicate most_buffer 0

pub long : length zeros ≡ most_buffer
long = length-replicate {A = ℕ} most_buffer 0
