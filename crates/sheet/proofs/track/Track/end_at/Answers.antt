-- The end that the record at the channel's place holds.
use native.Mathlib.Omega.{arith}
use Rattle.sheet.specs.Settings.{record_at, end_at}
use Rattle.sheet.proofs.SettingsLaws.{channels-bounds, channel-end}
use Rattle.sheet.proofs.track.Track.end_at.Goals as goal

pub offset_bounds-self-c : goal.offset_bounds-self-c
offset_bounds-self-c c = omega (arith, (channels-bounds c.args.self.now.legal).1)

pub bounds-self-c : goal.bounds-self-c
bounds-self-c c = omega (arith, (channels-bounds c.args.self.now.legal).1)

pub returns : goal.returns
unfolding record_at end_at
returns c = channel-end c.args.self.now.legal _ _ c.requires c.from.ensures
