use mathlib.Core.Bool.{cond}
use mathlib.Core.Path.{◌≡◌, sym, ◌∙◌}
use Rattle.std.proofs.lemmas.Grind.{common_steps}
use lib.Dec.{eqb}
use Prim.Native.Nat.{ℕ, ◌<◌}
use native.Mathlib.Omega.{arith}
use lib.ListN.{length, get_or}
use Rattle.bits.specs.PartsLaws.{tab-start, tab-more, tab-end}
use Rattle.mantissas.specs.Ranges.{levels as codeCount}
use Rattle.reconstruct.specs.Bin.{flag_of, level_of}
use Rattle.reconstruct.specs.BinLaws.{bin-flag}
use Rattle.reconstruct.specs.CopyLaws.{bins-made, coded-entry, count-listed}
use Rattle.reconstruct.proofs.rows.reconstruct_bins.Goals as goal
use Rattle.reconstruct.proofs.rows.reconstruct_bins.Goals.{Start}

-- the bap and the code of a bin
legal : (c : Start) (i : ℕ) → i < length c.args.exps.now
    → (get_or c.args.bap.now i 0 < 16) × (get_or c.args.codes.now i 0 < codeCount (get_or c.args.bap.now i 0))
legal c i h = coded-entry c.requires.legal_bins.coded i (omega (arith, c.requires.legal_bins.bap-long))

pub loop-i-init : goal.loop-i-init
loop-i-init c = (tab-start _ c.args.has_level.now, tab-start _ c.args.levels.now)

pub bounds-counts-from : goal.bounds-counts-from
bounds-counts-from c = rw c.from-in-loop-i-3.ensures (legal (goal.at.bounds-counts-from c).Start c.loop-i.i c.loop-i-test.true).0

pub level_at-requires : goal.level_at-requires
level_at-requires c =
    let i = c.loop-i.i in
    let h = c.loop-i-test.true in
    let bin = legal (goal.at.level_at-requires c).Start i h in
    let n = count-listed _ c.level_table-counts.ensures _ bin.0 in
    record {
      exponent_bound = (rw c.from-in-loop-i.ensures (c.requires.legal_bins.low i h), bin.0);
      count_value = (rw c.from-in-loop-i-3.ensures n, rw (c.from-in-loop-i-2.ensures, c.from-in-loop-i-3.ensures, n) bin.1);
    }

pub loop-i-preserved : goal.loop-i-preserved
loop-i-preserved c =
    let l = c.loop-i in
    let flag : c.from.result ≡ cond (eqb (get_or c.args.bap.now l.i 0) 0) 0 1 = grind (arith, common_steps) in (
      tab-more _ _ l.i _ (omega arith) l.invariant.0 (flag ∙ sym (bin-flag _ _ _)),
      tab-more _ _ l.i _ (omega arith) l.invariant.1 (rw (c.from-in-loop-i.ensures, c.from-in-loop-i-2.ensures) at c.level_at.ensures),
    )

pub returns : goal.returns
returns c =
    let l = c.loop-i in record {
      has_level_after = bins-made flag_of _ _ _ _ _ (tab-end _ _ l.i _ (omega arith) (l.auto.has_level ∙ c.requires.has_level_len.0) l.invariant.0);
      levels_after = bins-made level_of _ _ _ _ _ (tab-end _ _ l.i _ (omega arith) (l.auto.levels ∙ c.requires.has_level_len.1) l.invariant.1);
    }
