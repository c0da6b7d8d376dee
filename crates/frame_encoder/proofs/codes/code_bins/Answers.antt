use Prim.Native.Nat.{◌<◌}
use native.Mathlib.Omega.{arith}
use lib.ListN.{length}
use Rattle.frame_runs.specs.FiniteLaws.{finite-at}
use Rattle.frame_encoder.proofs.Coding.{code-more, code-end}
use Rattle.frame_encoder.proofs.codes.code_bins.Goals as goal

pub bounds-exps-i : goal.bounds-exps-i
bounds-exps-i c = omega (arith, c.requires.codable.exps-long, c.requires.codes_len)

pub bounds-bap-i : goal.bounds-bap-i
bounds-bap-i c = omega (arith, c.requires.codable.bap-long, c.requires.codes_len)

pub mantissa_code-requires : goal.mantissa_code-requires
mantissa_code-requires c =
    let i = c.loop-i.i in
    let h : i < length c.args.coeffs.now = omega (arith, c.requires.codes_len, c.loop-i-test.true) in
    record {
      t = finite-at c.args.coeffs.now i c.requires.codable.all-finite h;
      exponent_bound = (rw c.from.ensures (c.requires.codable.low i h), omega (arith, c.requires.codable.fit i));
    }

pub loop-i-preserved : goal.loop-i-preserved
loop-i-preserved c =
    let h : c.loop-i.i < length c.args.coeffs.now = omega (arith, c.requires.codes_len, c.loop-i-test.true) in
    code-more c.args.coeffs.now c.args.exps.now c.args.bap.now c.loop-i.codes _ c.loop-i.i _ (omega arith) h (omega (arith, h, c.requires.codable.exps-long)) (omega (arith, h, c.requires.codable.bap-long)) (rw c.from.ensures at c.mantissa_code.ensures) c.loop-i.invariant

pub returns : goal.returns
returns c = code-end c.args.coeffs.now c.args.exps.now c.args.bap.now c.loop-i.codes _ c.loop-i.i (omega arith) (omega (arith, c.requires.codes_len)) c.loop-i.invariant
