use Rattle.std.proofs.Common.{refl, ◌≡◌, ◌≤◌, ◌<◌, ◌+◌, ◌*◌, ◌-◌, ◌/◌, ◌^◌, ℕ, get_or, arith, pow_pos}
use Rattle.bits.specs.Field.{field}
use Rattle.bits.proofs.Gathering.{taken_out, byte_more, acc-fits}
use Rattle.bits.proofs.Storing.{one_shl}
use Rattle.bits.proofs.read.peek.Goals as goal

pub loop-i-init : goal.loop-i-init
unfolding field
loop-i-init c =
    let none : 8 * (c.args.pos / 8 - c.args.pos / 8) ≡ 0 = omega arith in
    record { gathered = rw none refl; fits = rw none (omega arith) }

pub loop-i-preserved : goal.loop-i-preserved
loop-i-preserved c =
    let l = c.loop-i in
    let first : ℕ = c.args.pos / 8 in
    let eight : 8 * (l.i + 1 - first) ≡ 8 * (l.i - first) + 8 = omega (arith, l.auto.i) in
    let byte : get_or c.args.input.now l.i 0 < 2 ^ 8 = omega (arith, c.type_inv.input l.i) in
    let room : 8 * (l.i - first) + 8 ≤ 32 = omega arith in
    record {
      gathered = rw (eight, c.from.ensures) (byte_more _ _ _ _ _ (omega arith) byte l.invariant.fits room l.invariant.gathered);
      fits = rw (eight, c.from.ensures) (acc-fits _ _ _ l.invariant.fits byte room);
    }

pub overflow_sub-result-2 : goal.overflow_sub-result-2
overflow_sub-result-2 c =
    let n = c.args.n in
    rw (one_shl n (omega arith)) (pow_pos n)

pub returns : goal.returns
returns c =
    let l = c.loop-i in
    let first : ℕ = c.args.pos / 8 in
    let bytes = c.div_ceil-bytes.result in
    let all : 8 * (l.i - first) ≡ 8 * bytes = omega (arith, l.auto.i-end (omega arith)) in
    let read = taken_out _ _ _ l.i (8 * bytes) l.acc _ (omega arith) (omega arith) (rw all at l.invariant.gathered) (omega arith) refl in
    record { input_value = read.0; upper_bound = read.1 }
