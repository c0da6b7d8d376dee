-- A channel's part of a block as it is written: nothing, or a new set.
use Prim.Native.Nat.{ℕ, ◌+◌, ◌*◌, ◌≤◌}
use mathlib.Core.Path.{◌≡◌, ap, ◌∙◌}
use mathlib.Core.List.{List}
use lib.ListN.{length, take}
use lib.Seq.{length-take-le}
use Rattle.bits.specs.Write.{Put, Ready}
use Rattle.bits.specs.WriteLaws.{and_none}
use Rattle.bits.specs.declared.write.Writer.{Writer}
use Rattle.elements.specs.declared.set.ExponentSet.{ExponentSet}
use Rattle.elements.specs.declared.set.ExponentSet.TheVariants.{Reuse, New}
use Rattle.elements.specs.Strategy.{grpsize}
use Rattle.elements.specs.declared.strategy.Strategy.{Strategy}
use Rattle.exponents.specs.Groups.{group_count, exponent_bits}
use Rattle.exponents.specs.GroupsLaws.{length-exponent_bits}
use Rattle.frame.specs.Body.{set_bits}

module _ (set : ExponentSet) (end : ℕ) (part : List ℕ) where
  -- reuse: nothing is written
  pub put-none : (o : List ℕ) (w : Writer) (size n : ℕ) → set ≡ Reuse → Ready w size n → Put o w (set_bits set end part) o w
  unfolding set_bits
  put-none o w size n e r = rw e (and_none o w r.few r.small)

  module _ (strategy : Strategy) (new : set ≡ New strategy) where
    new-bits : set_bits set end part ≡ exponent_bits (grpsize strategy) (take end part)
    unfolding set_bits
    new-bits = rw new

    -- the room that the writer of a set asks for
    pub set-asked : {w : Writer} (size : ℕ) → end ≤ length part → Ready w size (length (set_bits set end part)) → Ready w size (4 + 7 * group_count end (grpsize strategy))
    set-asked size l r =
        let n : length (set_bits set end part) ≡ 4 + 7 * group_count end (grpsize strategy) =
        ap length new-bits
        ∙ length-exponent_bits (grpsize strategy) (take end part)
        ∙ ap (λ (m : ℕ). 4 + 7 * group_count m (grpsize strategy)) (length-take-le end part l) in
        rw n at r

    pub put-new : {o o' : List ℕ} {w w' : Writer} → Put o w (exponent_bits (grpsize strategy) (take end part)) o' w' → Put o w (set_bits set end part) o' w'
    put-new p = rw new-bits p
