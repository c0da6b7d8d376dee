-- The turns of the loops that count.
use Prim.Native.Nat.{ℕ, ◌+◌, ◌*◌, ◌≤◌, ◌<◌}
use mathlib.Core.Path.{◌≡◌, sym, ap, ap₂, ◌∙◌}
use mathlib.Core.Bool.{true}
use mathlib.Core.List.{List, [], ◌∷◌, ◌++◌}
use native.Mathlib.Numerals.{add-one}
use native.Mathlib.Omega.{arith}
use lib.ListN.{length, take, drop, get_or, set, length-drop, length-set, take-append-drop}
use lib.Seq.{take-suc, take-length, take-set-le, drop-set-lt, drop-set-add}
use Rattle.bits.specs.Parts.{tab}
use Rattle.bits.specs.PartsLaws.{tab-more, tab-end}
use Rattle.elements.specs.declared.set.ExponentSet.{ExponentSet}
use Rattle.elements.specs.declared.set.ExponentSet.TheVariants.{Reuse, New}
use Rattle.elements.specs.Strategy.{grpsize}
use Rattle.elements.specs.declared.strategy.Strategy.{Strategy}
use Rattle.exponents.specs.Groups.{group_count}
use Rattle.exponents.specs.GroupsLaws.{count-thirds}
use Rattle.mantissas.specs.Formula.{sum}
use Rattle.sheet.specs.Ranges.{legal_end}
use Rattle.frame.specs.Body.{total}
use Rattle.frame.specs.BodyLaws.{total-append}
use Rattle.shaping.specs.GroupsLaws.{is_span-grpsize}
use Rattle.frame_body.specs.Counts.{set_count}

-- ---- a set

pub set-none : (set : ExponentSet) (end : ℕ) → set ≡ Reuse → 0 ≡ set_count set end
unfolding set_count
set-none set end e = rw e

pub set-groups : (set : ExponentSet) (strategy : Strategy) (end : ℕ) → set ≡ New strategy → legal_end end ≡ true → 4 + 7 * group_count end (grpsize strategy) ≡ set_count set end
unfolding set_count
set-groups set strategy end new e = rw new (ap (λ (g : ℕ). 4 + 7 * g) (count-thirds end (grpsize strategy) e (is_span-grpsize strategy)))

-- ---- a sum

pub sum-turn : (f : ℕ → ℕ) (i n k : ℕ) → n ≡ sum f i → k ≡ f i → n + k ≡ sum f (i + 1)
unfolding sum
sum-turn f i n k e q = rw (add-one i, e, q)

-- ---- the sum of a list

pub total-turn : (l : List ℕ) (i n : ℕ) → i < length l → n ≡ total (take i l) → n + get_or l i 0 ≡ total (take (i + 1) l)
unfolding total
total-turn l i n h e =
    rw (add-one i, take-suc l i 0 h, total-append (take i l) (get_or l i 0 ∷ [])) (omega arith)

pub total-within : (l : List ℕ) (i n : ℕ) → i < length l → n ≡ total (take i l) → n + get_or l i 0 ≤ total l
total-within l i n h e =
    let s : total l ≡ total (take (i + 1) l) + total (drop (i + 1) l) =
    ap total (sym (take-append-drop (i + 1) l)) ∙ total-append (take (i + 1) l) (drop (i + 1) l) in
    omega (arith, total-turn l i n h e)

pub total-end : (l : List ℕ) (i n : ℕ) → i ≡ length l → n ≡ total (take i l) → n ≡ total l
total-end l i n q e = e ∙ ap (λ (k : ℕ). total (take k l)) q ∙ ap total (take-length l)

-- ---- two lists of six counts, one behind the other

module _ (f g : ℕ → ℕ) (l : List ℕ) (i : ℕ) (long : length l ≡ 12) (e : take i l ≡ tab i f) (k : take i (drop 6 l) ≡ tab i g) where
  -- one more of each stored
  pub two-more : (v w : ℕ) → i < 6 → v ≡ f i → w ≡ g i
      → (length (set (set l i v) (6 + i) w) ≡ 12)
      × (take (i + 1) (set (set l i v) (6 + i) w) ≡ tab (i + 1) f)
      × (take (i + 1) (drop 6 (set (set l i v) (6 + i) w)) ≡ tab (i + 1) g)
  two-more v w h q r =
      let front = take-set-le (i + 1) (set l i v) (6 + i) w (omega arith) in
      let behind = drop-set-add 6 (set l i v) i w ∙ ap (λ (t : List ℕ). set t i w) (drop-set-lt 6 l i v h) in
      let room : i < length (drop 6 l) = rw length-drop (omega arith) in (
        length-set (set l i v) (6 + i) w ∙ length-set l i v ∙ long,
        front ∙ tab-more f l i v (omega arith) e q,
        ap (take (i + 1)) behind ∙ tab-more g (drop 6 l) i w room k r,
      )

  pub two-end : i ≡ 6 → l ≡ tab 6 f ++ tab 6 g
  two-end q =
      let six : length (drop 6 l) ≡ 6 = rw length-drop (omega arith) in
      sym (take-append-drop 6 l)
      ∙ ap₂ (λ (x y : List ℕ). x ++ y) (rw q at e) (tab-end g (drop 6 l) i 6 q six k)
