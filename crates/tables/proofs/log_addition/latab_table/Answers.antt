-- What is stored, and 0 from 210 on, is the list of its entries.
use Rattle.std.proofs.Common.{ℕ, List, ◌++◌, ap}
use Rattle.std.specs.Prelude.{replicate}
use Rattle.tables.specs.Masking.{latab}
use Rattle.tables.proofs.log_addition.latab_table.Goals as goal

pub returns : goal.returns
unfolding latab
returns c = ap (λ (stored : List ℕ). stored ++ replicate 46 0) c.copy_from_slice.ensures.after
