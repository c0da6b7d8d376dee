-- The whole part of twice the value is the digits shifted; with one more, halved, it is the nearest whole number, a half up.
use borrow.Author.Rules.{rules}
use mathlib.Core.Path.{sym, subst}
use Prim.Native.Nat.{◌+◌, ◌%◌}
use native.Mathlib.Omega.{arith}
use lib.Dec.{T}
use lib.Ieee.{binary32, fits, to_bits}
use lib.Pow.{shr_le}
use Rattle.quantiser.proofs.AsymmetricLaws.{half_is}
use Rattle.quantiser.proofs.PatternLaws.{within-number, field-most, whole_is}
use Rattle.quantiser.proofs.asymmetric.half_away.Goals as goal
use Rattle.quantiser.proofs.asymmetric.half_away.Goals.{Start}

in-format : (c : Start) → T (fits binary32 c.args.m)
in-format c = subst T (sym c.well_formed.0.1) tt

pub float_to_bits-pattern : goal.float_to_bits-pattern
float_to_bits-pattern c = within-number c.args.m c.requires.t

pub overflow_sub-width-2 : goal.overflow_sub-width-2
overflow_sub-width-2 c = omega (arith, field-most c.args.m (in-format c) c.requires.t)

pub overflow_add-result : goal.overflow_add-result
overflow_add-result c = omega (arith, shr_le (to_bits binary32 c.args.m % 8388608 + 8388608) c.min.result)

pub returns : goal.returns
returns c =
    half_is c.args.m c.args.width _ (search rules) (rw c.min.ensures (whole_is c.args.m c.args.width (in-format (goal.at.returns c).Start) c.requires.t (search rules)))
