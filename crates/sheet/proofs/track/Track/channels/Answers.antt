-- Those that have a record.
use Rattle.sheet.specs.Settings.{channels}
use Rattle.sheet.proofs.SettingsLaws.{channel-count}
use Rattle.sheet.proofs.track.Track.channels.Goals as goal

pub returns : goal.returns
unfolding channels
returns c = channel-count c.args.self.now.legal _ c.channels_of.ensures
