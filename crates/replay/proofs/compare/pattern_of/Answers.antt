-- What is finite is no NaN, so its bits are told.
use Rattle.std.proofs.Common.{◌≡◌, true, false, T, sym, ◌∙◌, subst}
use Rattle.std.specs.Float.Ieee.Scale.{finite}
use Rattle.shaping.specs.FloatLaws.{finite_number}
use Rattle.replay.specs.Entries.{pattern_of}
use Rattle.replay.proofs.compare.pattern_of.Goals as goal

pub float_to_bits-result : goal.float_to_bits-result
float_to_bits-result c = finite_number c.args.level (subst T (sym (sym c.is_finite.ensures ∙ c.if-is_finite.true)) tt)

pub returns-then-is_finite : goal.returns-then-is_finite
unfolding pattern_of
returns-then-is_finite c = let e : finite c.args.level ≡ true = sym c.is_finite.ensures ∙ c.if-is_finite.true in simp e

pub returns : goal.returns
unfolding pattern_of
returns c = let e : finite c.args.level ≡ false = sym c.is_finite.ensures ∙ c.if-is_finite.false in simp e
