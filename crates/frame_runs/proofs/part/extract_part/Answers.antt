use native.Mathlib.Omega.{arith}
use Rattle.frame_runs.specs.FiniteLaws.{finite-at}
use Rattle.frame_runs.proofs.Bins.{extract-more, extract-end}
use Rattle.frame_runs.proofs.part.extract_part.Goals as goal

pub exponent_of-requires : goal.exponent_of-requires
exponent_of-requires c = finite-at c.args.coeffs.now c.loop-i.i c.requires.coeffs_value (omega arith)

pub loop-i-preserved : goal.loop-i-preserved
loop-i-preserved c = extract-more c.args.coeffs.now c.loop-i.part _ c.loop-i.i _ (omega arith) (omega arith) c.exponent_of.ensures c.loop-i.invariant

pub returns : goal.returns
returns c = extract-end c.args.coeffs.now c.loop-i.part _ c.loop-i.i (omega arith) (omega arith) c.loop-i.invariant
