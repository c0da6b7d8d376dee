-- The size rounded, and the code of the sign: laws of PatternLaws.antt.
use borrow.Author.Rules.{rules}
use native.Mathlib.Nat.{le_trans}
use lib.Pow.{pow_mono, pow_pos}
use Rattle.quantiser.proofs.AsymmetricLaws.{away-le}
use Rattle.quantiser.proofs.PatternLaws.{within-number, code-set, code-clear}
use Rattle.quantiser.proofs.asymmetric.signed_code.Goals as goal
use Rattle.quantiser.proofs.asymmetric.signed_code.Goals.{Start}

pub overflow_sub-power : goal.overflow_sub-power
overflow_sub-power c = rw c.power.ensures (pow_pos _)

pub overflow_sub-below : goal.overflow_sub-below
overflow_sub-below c =
    rw (c.half_away-size.ensures, c.power-all.ensures) (le_trans (away-le c.args.m _ c.requires.t) (pow_mono (search rules)))

pub overflow_sub-below-2 : goal.overflow_sub-below-2
overflow_sub-below-2 c = rw c.power-all.ensures (pow_pos _)

pub is_sign_negative-requires : goal.is_sign_negative-requires
is_sign_negative-requires c = within-number c.args.m c.requires.t

pub returns-then-is_sign_negative : goal.returns-then-is_sign_negative
returns-then-is_sign_negative c =
    rw c.power-all.ensures (code-set c.args.m c.args.width _ c.requires.t c.half_away-size.ensures (c.if-is_sign_negative.ensures))

pub returns-else-is_sign_negative : goal.returns-else-is_sign_negative
returns-else-is_sign_negative c =
    rw (c.min-above.ensures, c.power.ensures) (code-clear c.args.m c.args.width _ c.requires.t c.half_away-size.ensures (c.if-is_sign_negative.ensures))
