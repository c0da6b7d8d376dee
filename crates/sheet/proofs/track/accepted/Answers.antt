-- The settings of an accepted sheet are legal.
use Rattle.sheet.proofs.SettingsLaws.{settings-legal}
use Rattle.sheet.proofs.track.accepted.Goals as goal

pub invariant_of-result : goal.invariant_of-result
invariant_of-result c =
    record {
      table = c.strategies.ensures;
      legal = rw c.settings_of-settings.ensures (settings-legal c.args.sheet.now c.requires);
    }
