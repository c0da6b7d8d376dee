-- The call at each bap gave its size; the sizes of all sixteen are the list.
use Rattle.std.proofs.Common.{◌≡◌, refl, ◌∙◌, rules}
use Rattle.std.proofs.lemmas.List.FromFn.{fill_by_all}
use Rattle.std.specs.Prelude.{map}
use Rattle.std.specs.List.{range_with_len}
use Rattle.tables.specs.Entry.{entry}
use Rattle.mantissas.specs.Ranges.{size, group_sizes}
use Rattle.mantissas.proofs.code.group_sizes.Goals as goal

all-sizes : map size (range_with_len 0 16) ≡ group_sizes
unfolding size group_sizes entry
all-sizes = refl

pub returns : goal.returns
returns c = fill_by_all size c.from_fn.result 16 0 c.from_fn.ensures.items.long (λ k h. let w = c.from_fn.ensures.items.at k 0 h in search rules) ∙ all-sizes
