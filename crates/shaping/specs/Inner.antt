-- What the inner functions ask and answer.
use Rattle.std.specs.Prelude.{◌≡◌, cond, eqb, List, ℕ, ◌*◌, ◌≤◌, length, get_or, Result, Ok, Err}
use Rattle.bits.specs.declared.refusal.Refusal.{Refusal}
use Rattle.bits.specs.declared.refusal.Refusal.TheVariants as refusal
use Rattle.elements.specs.declared.strategy.Strategy.{Strategy}
use Rattle.elements.specs.declared.strategy.Strategy.TheVariants.{D15, D25, D45}

-- what an accepted `select_exp_strategies_per_end` may rely on: up to six channels, each end at most 256, and the whole exponent buffer
pub record Selectable (exps ends : List ℕ) : Type 0 where
  pub few : length ends ≤ 6
  pub held : (i : ℕ) → get_or ends i 0 ≤ 256
  pub whole : length exps ≡ 6 * length ends * 256

-- the strategy of a span; another span is 2
abbrev pub strategy_for : ℕ → Result Strategy Refusal
strategy_for span =
    cond (eqb span 1) (Ok D15) (cond (eqb span 2) (Ok D25) (cond (eqb span 4) (Ok D45) (Err refusal.OutOfRange)))
