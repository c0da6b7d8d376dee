-- Document 01, "Edges": the cases of `logadd`.
use Rattle.std.specs.Prelude.{[], ◌∷◌, ◌≡◌, refl}
use Rattle.tables.specs.Entry.{entry}
use Rattle.tables.specs.Masking.{latab}
use Rattle.excitation.specs.BandPsd.{logadd}

pub logadd-cases : (logadd 0 0 ∷ logadd 0 2 ∷ logadd 3072 0 ∷ []) ≡ (64 ∷ 65 ∷ 3072 ∷ [])
unfolding logadd entry latab
logadd-cases = refl
