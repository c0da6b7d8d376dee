-- The bands of one bin, then the others; from the last band on the psds are 0.
use Prim.Native.Nat.{ℕ}
use mathlib.Core.Path.{ap, ◌∙◌}
use native.Mathlib.Omega.{arith}
use lib.ListN.{length, take}
use Rattle.excitation.specs.BandPsd.{bndpsd}
use Rattle.excitation.specs.Front.{front}
use Rattle.excitation.specs.FrontLaws.{take-front, front-front}
use Rattle.excitation.specs.BandOrderLaws.{single-bands}
use Rattle.excitation.proofs.Joining.{powers-all}
use Rattle.excitation.proofs.psd_integration.band_powers.Goals as goal

pub single_powers-requires : goal.single_powers-requires
single_powers-requires c =
    let r = c.requires in
    record {
      bins_bound = (omega arith, omega arith);
      by_index = r.by_index;
    }

pub returns-then-exp-lt-SINGLES : goal.returns-then-exp-lt-SINGLES
returns-then-exp-lt-SINGLES c =
    let b = single-bands _ c.if-exp-lt-SINGLES.true in
    record {
      bands = b;
      powers_after = c.single_powers.ensures ∙ powers-all _ _ _ _ b c.requires.exp_len.1;
    }

pub single_powers-requires-2 : goal.single_powers-requires-2
single_powers-requires-2 c =
    let r = c.requires in
    record {
      bins_bound = (omega arith, c.if-exp-lt-SINGLES.false);
      by_index = r.by_index;
    }

pub joined_powers-requires : goal.joined_powers-requires
joined_powers-requires c =
    let r = c.requires in
    record {
      exp_len = (c.if-exp-lt-SINGLES.false, r.exp_len.0);
      by_index = r.by_index;
      powers_value = ap (take 28) c.single_powers-2.ensures ∙ take-front _ 28 _;
    }

pub returns : goal.returns
returns c =
    let j = c.joined_powers.ensures in
    let a = c.args in
    let f : ℕ → ℕ = bndpsd a.exp.now 0 (length a.exp.now) in
    record {
      bands = j.bands;
      powers_after = j.lower_bound.1 ∙ ap (front f c.joined_powers.result) c.single_powers-2.ensures ∙ front-front f 28 c.joined_powers.result a.powers.now j.lower_bound.0 ∙ powers-all _ _ _ _ j.bands c.requires.exp_len.1;
    }
