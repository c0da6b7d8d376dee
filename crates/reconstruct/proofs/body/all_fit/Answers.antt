-- Each of the four lengths is compared with the one of the settings.
use mathlib.Core.Bool.{Bool, true, false, ◌&&◌}
use mathlib.Core.Path.{◌≡◌, refl}
use lib.Dec.{eqb}
use lib.ListN.{length}
use Rattle.sheet.specs.Layout.{buffer_length}
use Rattle.sheet.specs.Settings.{channels}
use Rattle.reconstruct.proofs.body.all_fit.Goals as goal

regrouped : (a b c d : Bool) → ((a && b && c) && d) ≡ (a && (b && (c && d)))
regrouped true true c d = refl
regrouped true false c d = refl
regrouped false b c d = refl

pub returns : goal.returns
returns c =
    let n = buffer_length (channels c.args.track.now.settings) in
    rw (c.buffer_length-n.ensures, c.channels.ensures.is) (regrouped (eqb (length c.args.exps.now) n) (eqb (length c.args.codes.now) n) (eqb c.args.flags n) (eqb c.args.levels n))
