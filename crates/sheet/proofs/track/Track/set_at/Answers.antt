-- The set of that block in the table, which is the settings'.
use Rattle.std.proofs.Common.{ap, ◌∙◌}
use Rattle.sheet.specs.Settings.{set_at, set_in}
use Rattle.sheet.proofs.track.Track.set_at.Goals as goal

pub returns : goal.returns
unfolding set_at
returns c = let a = c.args in c.set_at.ensures ∙ ap (λ t. set_in t a.c a.b) a.self.now.table
