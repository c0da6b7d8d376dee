use Rattle.std.specs.Prelude.{◌≡◌, refl, ℕ, ◌<◌, ◌+◌, ◌≤◌, Bool, true, false, cond, List, length, drop, get_or, Float}
use Rattle.std.proofs.Common.{add-one, arith, drop-cons, drop_of_length-le}
use Rattle.std.specs.Float.{nan}
use Rattle.std.specs.Float.Ieee.{lt, of_bits}
use Rattle.quantiser.specs.Symmetric.{nearest_from, nearest_of, distance}
use Rattle.quantiser.proofs.symmetric.nearest_symmetric.Goals as goal
use Rattle.quantiser.proofs.symmetric.nearest_symmetric.Goals.{then-d-best_distance, else-d-best_distance}

again : (m : Float) (t : List Float) (i b bi : ℕ) (d e bd : Float) (q : Bool) → i < length t → e ≡ distance m (get_or t i nan) → lt e d ≡ q
    → bi ≡ cond q i b → bd ≡ cond q e d → nearest_from m (drop i t) i b d ≡ nearest_of m t → nearest_from m (drop (i + 1) t) (i + 1) bi bd ≡ nearest_of m t
unfolding nearest_from
again m t i b bi d e bd q h x y u v inv = rw (u, v, ← y, x, add-one) (rw (drop-cons t i nan) at inv)

pub loop-i-init : goal.loop-i-init
unfolding nearest_of of_bits
loop-i-init c = refl

pub loop-i-preserved : goal.loop-i-preserved
loop-i-preserved c =
    let go = again c.args.m c.args.table.now c.loop-i.i c.loop-i.best c.if-d-best_distance.best c.loop-i.best_distance c.distance_to-d.result c.if-d-best_distance.best_distance in
    elim c.if-d-best_distance.branch [
      | then-d-best_distance w ↦ go true (omega arith) c.distance_to-d.ensures w.if-d-best_distance.true w.best-is w.best_distance-is c.loop-i.invariant
      | else-d-best_distance w ↦ go false (omega arith) c.distance_to-d.ensures w.if-d-best_distance.false w.best-is w.best_distance-is c.loop-i.invariant
    ]

pub returns : goal.returns
unfolding nearest_from
returns c =
    let all : length c.args.table.now ≤ c.loop-i.i = omega arith in
    rw (drop_of_length-le c.args.table.now all) at c.loop-i.invariant
