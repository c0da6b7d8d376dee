-- The records as they stand.
use Rattle.sheet.proofs.SettingsLaws.{settings-as-they-stand}
use Rattle.sheet.proofs.settings.settings_of.Goals as goal

pub returns : goal.returns
returns c =
    simp (
      c.record_of-6.ensures,
      c.record_of-5.ensures,
      c.record_of-4.ensures,
      c.record_of-3.ensures,
      c.record_of-2.ensures,
      c.record_of.ensures,
      c.common_of-common.ensures,
      settings-as-they-stand c.args.sheet.now c.requires,
    )
