-- What is finite is no NaN, so its bits are told.
use Rattle.std.proofs.Common.{T, sym, ◌∙◌, subst}
use Rattle.shaping.specs.FloatLaws.{finite_number}
use Rattle.reconstruct_edges.proofs.show.pattern_of.Goals as goal

pub float_to_bits-result : goal.float_to_bits-result
float_to_bits-result c = finite_number c.args.level (subst T (sym (sym c.is_finite.ensures ∙ c.if-is_finite.true)) tt)
