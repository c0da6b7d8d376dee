-- The two ways that a channel's part is read.
use Rattle.std.specs.Prelude.{ℕ, ◌-◌, ◌≡◌, Bool, List, ◌++◌, Result, length, take, drop, replicate}
use Rattle.bits.specs.Read.{from, Came}
use Rattle.bits.specs.Reading.{ok, then}
use Rattle.bits.specs.declared.read.Fault.{Fault}
use Rattle.elements.specs.Strategy.{grpsize}
use Rattle.elements.specs.declared.set.ExponentSet.{ExponentSet}
use Rattle.elements.specs.declared.set.ExponentSet.TheVariants.{Reuse, New}
use Rattle.elements.specs.declared.strategy.Strategy.{Strategy}
use Rattle.exponents.specs.CallsLaws.{came-padded}
use Rattle.exponents.specs.Reading.{read_exponents}
use Rattle.frame.specs.Reader.{read_part}

pub part_left : (set : ExponentSet) (end : ℕ) (old : List ℕ) (bits : List Bool) → set ≡ Reuse → read_part set end old bits ≡ ok old bits
unfolding read_part
part_left set end old bits e = rw e

part-new : (set : ExponentSet) (strategy : Strategy) (end : ℕ) (old : List ℕ) (bits : List Bool) → set ≡ New strategy
    → read_part set end old bits ≡ then (read_exponents end (grpsize strategy) bits) (λ exps rest. ok (exps ++ replicate (256 - end) 0) rest)
unfolding read_part
part-new set strategy end old bits e = rw e

-- a set that was read into a part of 256 entries
pub part-came : (set : ExponentSet) (strategy : Strategy) (end : ℕ) (old part : List ℕ) (bits : List Bool) (pos : ℕ) (r : Result ℕ Fault) → set ≡ New strategy
    → length old ≡ 256 → Came (read_exponents end (grpsize strategy) (from pos bits)) (take end part) bits pos r → drop end part ≡ replicate (length old - end) 0
    → Came (read_part set end old (from pos bits)) part bits pos r
part-came set strategy end old part bits pos r e n c d =
    rw (part-new set strategy end old (from pos bits) e) (came-padded (read_exponents end (grpsize strategy) (from pos bits)) part end 256 bits pos r c (rw n at d))
