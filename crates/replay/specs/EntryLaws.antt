-- Laws of comparing entry by entry: the entries before one are the same, and one that differs.
use Rattle.std.specs.Prelude.{◌≡◌, ℕ, zero, suc, ◌+◌, ◌*◌, ◌/◌, ◌%◌, ◌<◌, List, [], ◌∷◌, map, length, take, ◌≢◌, slice_index, slice_index_or, refl}
use Rattle.std.proofs.Common.{sym, ap, ◌∙◌, arith, add-one, take-suc}
use Rattle.std.proofs.Math.Nat.{mul-div_cancel_left}
use Rattle.std.proofs.lemmas.List.{length-map}
use Rattle.bits.specs.Parts.{tab}
use Rattle.bits.specs.PartsLaws.{joined-more, get_or-tab}

-- so many entries of w bytes
pub entries-whole : (l w n : ℕ) → 0 < w → l % w ≡ 0 → l / w ≡ n → l ≡ w * n
entries-whole l w n h m d = let e : w * (l / w) ≡ l = omega arith in sym e ∙ ap (λ (k : ℕ). w * k) d

pub entries-of : (l w n : ℕ) → 0 < w → l ≡ w * n → l / w ≡ n
entries-of l w n h e = ap (λ (m : ℕ). m / w) e ∙ mul-div_cancel_left n h

module _ {A : Type 0} (pattern : A → ℕ) where
  -- the pattern of one entry among those of all
  pattern-at : (xs : List A) (i : ℕ) (d : A) → i < length xs → slice_index (map pattern xs) i ≡ pattern (slice_index_or xs i d)
  pattern-at [] i d h = absurd (omega arith)
  pattern-at (x ∷ xs) zero d h = refl
  pattern-at (x ∷ xs) (suc i) d h = pattern-at xs i d (omega arith)

  module _ (f : ℕ → ℕ) (xs : List A) (i : ℕ) (d : A) (h : i < length xs) where
    -- one more entry is the same
    pub same_more : take i (map pattern xs) ≡ tab i f → pattern (slice_index_or xs i d) ≡ f i → take (i + 1) (map pattern xs) ≡ tab (i + 1) f
    unfolding tab
    same_more e p =
        let long : i < length (map pattern xs) = rw (length-map xs pattern) h in
        rw (joined-more i (λ i. f i ∷ []), add-one i, take-suc (map pattern xs) i 0 long, e, pattern-at xs i d h, p)

    -- an entry that differs
    pub one-differs : (pattern (slice_index_or xs i d) ≢ f i) → map pattern xs ≢ tab (length xs) f
    one-differs d' e = d' (sym (pattern-at xs i d h) ∙ ap (λ (t : List ℕ). slice_index t i) e ∙ get_or-tab (length xs) f i h)
