-- Each bin has its least.
use lib.ListN.{length, get_or}
use Prim.Native.Nat.{ℕ, ◌<◌}
use mathlib.Core.Path.{◌≡◌}
use Rattle.std.proofs.Common.{of_calls}
use Rattle.shaping.proofs.Padded.{tabbed}
use Rattle.shaping.specs.Reach.{near_least}
use Rattle.shaping.proofs.reach.reach_near.Goals as goal

pub returns : goal.returns
returns c =
    let r = c.each_least in
    let found : (i : ℕ) → i < length c.args.to.now → get_or r.new.to i 0 ≡ near_least c.args.from.now i = λ i h. search (of_calls, r.ensures.found i h) parts 8 in
    tabbed (near_least c.args.from.now) r.new.to (length c.args.to.now) r.ensures.same_length found
