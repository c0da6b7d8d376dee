use mathlib.Core.Path.{◌≡◌}
use native.Mathlib.Numerals.{add-one}
use native.Mathlib.Omega.{arith}
use borrow.Author.Rules.{rules}
use Rattle.sheet.proofs.ranges.each_once.Goals as goal

pub loop-channel-preserved : goal.loop-channel-preserved
loop-channel-preserved c = (search rules, rw (add-one, c.record_count.ensures, c.loop-channel.invariant.1))

pub returns : goal.returns
returns c =
    let e : c.loop-channel.channel ≡ c.args.channels = omega arith in
    cc
