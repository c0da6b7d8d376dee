-- Rules by computation, for any table: one test that the prover computes over the whole table, and the law that carries it to each index.
-- Bounds come at any index, since an entry past the end is 0.
use Rattle.std.specs.Prelude.{◌≡◌, Bool, true, ◌&&◌, List, [], ◌∷◌, ℕ, zero, suc, ◌+◌, ◌-◌, ◌≤◌, ◌<◌, T, leb, drop}
use Rattle.std.proofs.Common.{subst, sym, ⊎_elim, zero-le, add-zero, add-suc, le_refl, le_trans, le_antisymm, le_of_suc-le-suc, not-suc-le-zero, eq-or-lt_of_le, arith, leb→le, get_or-drop}
use Rattle.std.specs.Float.Ieee.Fits.{and_l, and_r}
use Rattle.tables.specs.Entry.{entry, row}

-- the test holds at every index below n
abbrev pub all_below : ℕ → (ℕ → Bool) → Bool
all_below zero test = true
all_below (suc n) test = test n && all_below n test

pub at-index : (n : ℕ) (test : ℕ → Bool) → T (all_below n test) → (i : ℕ) → i < n → T (test i)
at-index zero test t i h = absurd (not-suc-le-zero h)
at-index (suc n) test t i h =
    ⊎_elim (λ e. subst (λ (m : ℕ). T (test m)) (sym e) (and_l (test n) (all_below n test) t))
    (λ l. at-index n test (and_r (test n) (all_below n test) t) i l)
    (eq-or-lt_of_le (le_of_suc-le-suc h))

-- every entry is at most m
abbrev pub all_at_most : ℕ → List ℕ → Bool
all_at_most m [] = true
all_at_most m (x ∷ xs) = leb x m && all_at_most m xs

pub entry-most : (m : ℕ) (table : List ℕ) → T (all_at_most m table) → (i : ℕ) → entry table i ≤ m
unfolding entry
entry-most m [] t i = zero-le
entry-most m (x ∷ xs) t zero = leb→le x m (and_l (leb x m) (all_at_most m xs) t)
entry-most m (x ∷ xs) t (suc i) = entry-most m xs (and_r (leb x m) (all_at_most m xs) t) i

-- and every entry of every row
abbrev pub all_rows_at_most : ℕ → List (List ℕ) → Bool
all_rows_at_most m [] = true
all_rows_at_most m (r ∷ rs) = all_at_most m r && all_rows_at_most m rs

pub row-entry-most : (m : ℕ) (table : List (List ℕ)) → T (all_rows_at_most m table) → (f i : ℕ) → entry (row table f) i ≤ m
unfolding row
row-entry-most m [] t f i = entry-most m [] tt i
row-entry-most m (r ∷ rs) t zero i = entry-most m r (and_l (all_at_most m r) (all_rows_at_most m rs) t) i
row-entry-most m (r ∷ rs) t (suc f) i = row-entry-most m rs (and_r (all_at_most m r) (all_rows_at_most m rs) t) f i

-- every entry from n on is 0, and so is what is read past the end
pub entry-none : (n : ℕ) (table : List ℕ) → T (all_at_most 0 (drop n table)) → (i : ℕ) → n ≤ i → entry table i ≡ 0
unfolding entry
entry-none n table t i h =
    let e : n + (i - n) ≡ i = omega arith in
    rw e at (rw get_or-drop at (le_antisymm (entry-most 0 (drop n table) t (i - n)) zero-le))

-- a test of neighbours, up to n, says it of any two indices up to n
abbrev pub never_rises : ℕ → (ℕ → ℕ) → Bool
never_rises n f = all_below n (λ (i : ℕ). leb (f (suc i)) (f i))

abbrev pub never_falls : ℕ → (ℕ → ℕ) → Bool
never_falls n f = all_below n (λ (i : ℕ). leb (f i) (f (suc i)))

module _ (n : ℕ) (f : ℕ → ℕ) where
  not-above : T (never_rises n f) → (i k : ℕ) → i + k ≤ n → f (i + k) ≤ f i
  not-above t i zero h = rw (add-zero i) (le_refl (f i))
  not-above t i (suc k) h =
      rw (add-suc i k)
      (le_trans (leb→le _ _ (at-index n (λ (j : ℕ). leb (f (suc j)) (f j)) t (i + k) (omega arith))) (not-above t i k (omega arith)))

  pub never-rises : T (never_rises n f) → (i j : ℕ) → i ≤ j → j ≤ n → f j ≤ f i
  never-rises t i j h g =
      let e : i + (j - i) ≡ j = omega arith in
      rw e at (not-above t i (j - i) (omega arith))

  not-below : T (never_falls n f) → (i k : ℕ) → i + k ≤ n → f i ≤ f (i + k)
  not-below t i zero h = rw (add-zero i) (le_refl (f i))
  not-below t i (suc k) h =
      rw (add-suc i k)
      (le_trans (not-below t i k (omega arith)) (leb→le _ _ (at-index n (λ (j : ℕ). leb (f j) (f (suc j))) t (i + k) (omega arith))))

  pub never-falls : T (never_falls n f) → (i j : ℕ) → i ≤ j → j ≤ n → f i ≤ f j
  never-falls t i j h g =
      let e : i + (j - i) ≡ j = omega arith in
      rw e at (not-below t i (j - i) (omega arith))
