-- The part that is written stands among bins that allow any exponent.
use Prim.Native.Nat.{◌+◌, ◌-◌}
use lib.ListN.{length}
use Rattle.shaping.specs.Reach.{topped}
use Rattle.shaping.proofs.Padded.{placed-padded}
use Rattle.shaping.proofs.Reaching.{length-topped}
use native.Mathlib.Omega.{arith}
use Rattle.shaping.proofs.reach.pad_tops.Goals as goal

pub returns : goal.returns
returns c =
    let limit = c.args.limit in
    let e = c.args.exp.now in
    let n = length-topped limit e in
    placed-padded 3 (3 + length e - 3) (6 + length e) 262 _ _ (topped limit e) c.requires.tops_len.1 c.hold_tops.ensures (omega arith) (omega arith) (omega arith)
