-- More than 8 segments are too many; else the tests as they are.
use borrow.Author.Tests.{le-leb, lt-leb}
use Rattle.allocation.specs.Allocation.{channel_codes}
use Rattle.allocation.proofs.ranges.channel_codes.Goals as goal

pub returns-then-channel-gt8 : goal.returns-then-channel-gt8
unfolding channel_codes
returns-then-channel-gt8 c = rw (lt-leb c.args.channel.now.nseg 8 c.if-channel-gt8.true)

pub returns : goal.returns
unfolding channel_codes
returns c = rw (le-leb c.args.channel.now.nseg 8 c.if-channel-gt8.false, c.segments_in_range-segments.ensures, c.segments_in_use.ensures)
