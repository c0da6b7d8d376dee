-- The part that is written stands among bins that allow any exponent.
use Prim.Native.Nat.{◌+◌, ◌-◌}
use lib.ListN.{length}
use Rattle.bits.specs.Parts.{tab}
use Rattle.bits.specs.PartsLaws.{length-tab}
use Rattle.shaping.specs.Reach.{near_least}
use Rattle.shaping.proofs.Padded.{placed-padded, part-tab}
use native.Mathlib.Omega.{arith}
use Rattle.shaping.proofs.reach.pad_near.Goals as goal

pub returns : goal.returns
returns c =
    let f = c.args.from.now in
    let l = c.args.near.now in
    let e = part-tab 8 (2 + length f - 8) (length f - 6) l _ (near_least f) (omega arith) (omega arith) c.reach_near.ensures in
    placed-padded 8 (2 + length f - 8) (10 + length f) 272 l _ (tab (length f - 6) (near_least f)) c.requires.near_len.1 e
    (omega (arith, length-tab (length f - 6) (near_least f))) (omega arith) (omega arith)
