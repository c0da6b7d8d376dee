-- What the inner functions take and give: the differences that a group is made of, how far the reader has filled its slice, and the sets that
-- the calls take.
use Rattle.std.specs.Prelude.{◌≡◌, true, cond, List, ℕ, ◌+◌, ◌-◌, ◌≤◌, ltb, length, get_or, take, Option, Some, None}
use Rattle.elements.specs.Strategy.{grpsize}
use Rattle.elements.specs.declared.strategy.Strategy.{Strategy}
use Rattle.exponents.specs.Calls.{in_range, right_length}
use Rattle.exponents.specs.Groups.{delta}

-- e may follow p in a shaped set
abbrev pub Near : ℕ → ℕ → Type 0
Near p e = (e ≤ p + 2) × (p ≤ e + 2) × (e ≤ 24)

-- the difference, plus 2, to the bin p, where a span begins; behind the last bin a pad
abbrev pub difference_at : List ℕ → ℕ → ℕ
difference_at exps p = cond (ltb p (length exps)) (delta (get_or exps (p - 1) 0) (get_or exps p 0)) 2

-- what the code has reached: so many exponents of its slice, or none
abbrev pub reached : Option ℕ → List ℕ → Option (List ℕ)
reached None exp = None
reached (Some p) exp = Some (take p exp)

-- a set that both calls take, and its strategy
pub record Taken (end span entries : ℕ) (strategy : Strategy) : Type 0 where
  pub ranged : in_range end span ≡ true
  pub own : grpsize strategy ≡ span
  pub fits : right_length end entries ≡ true
