-- The stretches, one behind the other.
use Prim.Native.Nat.{ℕ}
use mathlib.Core.List.{List}
use mathlib.Core.Path.{◌≡◌, refl, ap, ◌∙◌}
use native.Mathlib.Omega.{arith}
use lib.ListN.{take}
use Rattle.bits.specs.Parts.{joined, tab}
use Rattle.excitation.specs.Front.{front}
use Rattle.excitation.specs.Held.{after, excited_by}
use Rattle.excitation.specs.FrontLaws.{take-front, front-front}
use Rattle.excitation.proofs.excite.excite_bands.Goals as goal

pub excite_stretch-leaks-requires-clause-leaks_value : goal.excite_stretch-leaks-requires-clause-leaks_value
unfolding after
excite_stretch-leaks-requires-clause-leaks_value c = c.start.ensures

pub excite_stretch-leaks-requires-clause-excites_value : goal.excite_stretch-leaks-requires-clause-excites_value
unfolding tab joined
excite_stretch-leaks-requires-clause-excites_value c = refl

pub excite_stretch-leaks-requires-2-clause-excites_value : goal.excite_stretch-leaks-requires-2-clause-excites_value
excite_stretch-leaks-requires-2-clause-excites_value c = ap (take 3) c.excite_stretch-leaks.ensures.excites_after ∙ take-front _ 3 _

pub returns-then-bands-lt22 : goal.returns-then-bands-lt22
returns-then-bands-lt22 c =
    let a = c.args in
    let f : ℕ → ℕ = excited_by a.p a.lfe a.powers.now in
    let e : a.bands ≡ 7 = c.requires.bands_bound.1 c.if-bands-lt22.true in
    rw e (c.excite_stretch-leaks-2.ensures.excites_after ∙ ap (front f 7) c.excite_stretch-leaks.ensures.excites_after ∙ front-front f 3 7 a.excites.now (omega arith))

pub excite_stretch-leaks-requires-3-clause-excites_value : goal.excite_stretch-leaks-requires-3-clause-excites_value
excite_stretch-leaks-requires-3-clause-excites_value c = ap (take 7) c.excite_stretch-leaks-2.ensures.excites_after ∙ take-front _ 7 _

pub excite_stretch-requires-clause-excites_value : goal.excite_stretch-requires-clause-excites_value
excite_stretch-requires-clause-excites_value c = ap (take 22) c.excite_stretch-leaks-3.ensures.excites_after ∙ take-front _ 22 _

pub returns : goal.returns
returns c =
    let a = c.args in
    let f : ℕ → ℕ = excited_by a.p a.lfe a.powers.now in
    let l : List ℕ = a.excites.now in
    c.excite_stretch.ensures.excites_after
    ∙ ap (front f a.bands) (c.excite_stretch-leaks-3.ensures.excites_after ∙ ap (front f 22) (c.excite_stretch-leaks-2.ensures.excites_after ∙ ap (front f 7) c.excite_stretch-leaks.ensures.excites_after ∙ front-front f 3 7 l (omega arith)) ∙ front-front f 7 22 l (omega arith))
    ∙ front-front f 22 a.bands l c.if-bands-lt22.false
