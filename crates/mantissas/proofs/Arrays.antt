-- A number for each bap, in an array.
use mathlib.Core.Path.{◌≡◌, refl, sym, ap, fun_ext, ◌∙◌}
use mathlib.Core.List.{List}
use Prim.Native.Nat.{ℕ, zero, suc, ◌-◌, ◌≤◌, ◌<◌}
use native.Mathlib.Nat.{not-suc-le-zero}
use native.Mathlib.Omega.{arith}
use lib.Dec.{eqb}
use lib.ListN.{length, get_or, set, replicate}
use lib.Seq.{get_or-set_same, get_or-set_other, set-get_or}
use borrow.Author.Tests.{eqb-true, eqb-false}
use Rattle.bits.specs.Tests.{by_bool}
use Rattle.mantissas.specs.Inner.{LevelTable}
use Rattle.mantissas.specs.State.{update}
use Rattle.mantissas.specs.StateLaws.{at}
use Rattle.mantissas.specs.Stream.{left}
use Rattle.mantissas.specs.Ranges.{size, levels, width, group_sizes}
use Rattle.mantissas.specs.RangesLaws.{row}
use Rattle.tables.specs.Entry.{entry}
use Rattle.tables.specs.Quantizer.{quantization_bits}

pub at_set : (l : List ℕ) (b x : ℕ) → b < length l → at (set l b x) ≡ update (at l) b x
unfolding at update
at_set l b x h =
    fun_ext (λ k. by_bool (eqb k b)
    (λ e. rw (e, eqb-true k b e, get_or-set_same l b x 0 h))
    (λ e. rw (e, get_or-set_other l b k x 0 (eqb-false k b e))))

pub zeros-at : (n k : ℕ) → ◌≡◌ {A = ℕ} (get_or (replicate n 0) k 0) 0
zeros-at zero k = refl
zeros-at (suc n) zero = refl
zeros-at (suc n) (suc k) = zeros-at n k

pub at-zeros : (n : ℕ) → at (replicate n 0) ≡ λ k. 0
unfolding at
at-zeros n = fun_ext (λ k. zeros-at n k)

-- one less to come
pub less_one : (b n : ℕ) → 1 ≤ n → left b n ≡ n - 1
unfolding left
less_one b zero h = absurd (not-suc-le-zero h)
less_one b (suc n) h = omega arith

-- a number that is there already
pub set-as-is : (l : List ℕ) (b x : ℕ) → get_or l b 0 ≡ x → set l b x ≡ l
set-as-is l b x e = ap (λ (z : ℕ). set l b z) (sym e) ∙ set-get_or l b 0

-- what is said of bap 0
pub zero-width : width 0 ≡ 0
unfolding width quantization_bits entry
zero-width = refl

pub zero-size : size 0 ≡ 1
unfolding size group_sizes entry
zero-size = refl

-- the lists that are laid out: group sizes, levels and widths by bap
module _ (l : List ℕ) where
  pub size-listed : (b : ℕ) → l ≡ group_sizes → get_or l b 0 ≡ size b
  unfolding size entry
  size-listed b e = rw e

  -- a group has a code
  pub some_size : (b : ℕ) → l ≡ group_sizes → b < 16 → 1 ≤ get_or l b 0
  some_size b e h = omega (arith, size-listed b e, (row b h).size-least)

  pub level-listed : (b : ℕ) → LevelTable l → b < 16 → get_or l b 0 ≡ levels b
  unfolding entry
  level-listed b table h = table.1 b h

  pub width-listed : (b : ℕ) → l ≡ quantization_bits → get_or l b 0 ≡ width b
  unfolding width entry
  width-listed b e = rw e
