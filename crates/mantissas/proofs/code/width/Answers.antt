-- The table's entry, and its bound.
use Rattle.std.proofs.Common.{◌≡◌, ◌∙◌, ap}
use Rattle.tables.specs.EntryLaws.{entry-lent}
use Rattle.mantissas.specs.Ranges.{width}
use Rattle.mantissas.specs.RangesLaws.{row}
use Rattle.mantissas.proofs.code.width.Goals as goal
use Rattle.mantissas.proofs.code.width.Goals.{After-from-2}

is : (c : After-from-2) → c.from-2.result ≡ width c.args.b
unfolding width
is c = c.from-2.ensures ∙ entry-lent _ _ _ c.quantization_bits.ensures ∙ ap width c.from.ensures

pub returns : goal.returns
returns c = record { value = is c; upper_bound = rw (is c) (row c.args.b c.requires).width-most }
