-- A test on the numbers below a bound, one number after the other.
use Prim.Native.Nat.{ℕ, ◌+◌}
use mathlib.Core.Bool.{Bool, ◌&&◌}
use mathlib.Core.Path.{◌≡◌, ap, ◌∙◌}
use native.Mathlib.Numerals.{add-one}
use Rattle.sheet.specs.Ranges.{all_below}

pub all_more : (n : ℕ) (f : ℕ → Bool) (s t : Bool) → s ≡ all_below n f → t ≡ f n → (s && t) ≡ all_below (n + 1) f
all_more n f s t hs ht = rw (add-one n, hs, ht)

pub all_end : (i n : ℕ) (f : ℕ → Bool) (s : Bool) → i ≡ n → s ≡ all_below i f → s ≡ all_below n f
all_end i n f s e h = h ∙ ap (λ (k : ℕ). all_below k f) e
