-- The powers of the levels, each within the whole group's.
use Rattle.std.proofs.Common.{◌≡◌, ◌*◌, ◌^◌, ◌≤◌, arith, mul-le-mul_left}
use Rattle.mantissas.specs.Ranges.{levels}
use Rattle.mantissas.specs.RangesLaws.{row}
use Rattle.mantissas.proofs.Values.{value-is, one_left, two-left, three-left}
use Rattle.mantissas.proofs.code.values.Goals as goal
use Rattle.mantissas.proofs.code.values.Goals.{In-2, In_default}

-- the square and the cube, and their bounds
square : (c : In-2) → let m = c.levels-m.result in (m * m ≡ levels c.args.b ^ c.args.n) × ((1 ≤ m * m) × (m * m ≤ 65536))
square c = value-is _ _ _ c.requires.0 c.requires.1 (two-left (levels c.args.b) c.args.n _ c.in-2.is c.levels-m.ensures.value)

cube : (c : In_default) → let m = c.levels-m.result in (m * m * m ≡ levels c.args.b ^ c.args.n) × ((1 ≤ m * m * m) × (m * m * m ≤ 65536))
cube c =
    let n : c.args.n ≡ 3 = omega (arith, (row c.args.b c.requires.0).size-most) in
    value-is _ _ _ c.requires.0 c.requires.1 (three-left (levels c.args.b) c.args.n _ n c.levels-m.ensures.value)

pub overflow_mul-result : goal.overflow_mul-result
overflow_mul-result c = omega (arith, (square (goal.at.overflow_mul-result c).In-2).1.1)

pub overflow_mul-result-in_default : goal.overflow_mul-result-in_default
overflow_mul-result-in_default c =
    let m = c.levels-m.result in
    omega (arith, (cube (goal.at.overflow_mul-result-in_default c).In_default).1.1, mul-le-mul_left (m * m) c.levels-m.ensures.lower_bound.0)

pub overflow_mul-result-in_default-2 : goal.overflow_mul-result-in_default-2
overflow_mul-result-in_default-2 c = omega (arith, (cube (goal.at.overflow_mul-result-in_default-2 c).In_default).1.1)

pub returns-in-1-clause-value : goal.returns-in-1-clause-value
returns-in-1-clause-value c = one_left (levels c.args.b) c.args.n _ c.in-1.is c.levels-m.ensures.value

pub returns-in-2 : goal.returns-in-2
returns-in-2 c = let all = square (goal.at.returns-in-2 c).In-2 in record { value = all.0; lower_bound = all.1 }

pub returns-in_default : goal.returns-in_default
returns-in_default c = let all = cube (goal.at.returns-in_default c).In_default in record { value = all.0; lower_bound = all.1 }
