use mathlib.Core.Path.{◌≡◌}
use native.Mathlib.Omega.{arith}
use Rattle.excitation.specs.FrontLaws.{front-begin}
use Rattle.excitation.proofs.Exciting.{excited-more, excited-most}
use Rattle.excitation.proofs.excite.excite_stretch.Goals as goal
use Rattle.excitation.proofs.excite.excite_stretch.Goals.{After-after-leaks}

pub loop-band-init : goal.loop-band-init
loop-band-init c = record { leaks-are = c.requires.leaks_value; filled = front-begin _ _ _ c.requires.excites_value }

pub overflow_cast-excites : goal.overflow_cast-excites
overflow_cast-excites c = omega (arith, excited-most _ _ _ _ _ _ _ _ c.requires.by_index c.loop-band.invariant (rw (c.from.ensures, c.from-in-loop-band.ensures) at c.after-leaks.ensures))

pub loop-band-preserved : goal.loop-band-preserved
loop-band-preserved c = excited-more _ _ _ _ _ _ _ _ c.told-excites (omega arith) c.loop-band.invariant (rw (c.from.ensures, c.from-in-loop-band.ensures) at c.after-leaks.ensures)

pub returns : goal.returns
returns c =
    let x = c.loop-band.invariant in
    let e : c.loop-band.band ≡ c.args.behind = omega arith in
    record {
      value = rw e at x.leaks-are;
      excites_after = rw e at x.filled;
    }
