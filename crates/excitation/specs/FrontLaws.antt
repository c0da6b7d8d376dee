-- Laws of lists that are filled from the front: `front f n l`.
use Rattle.std.specs.Prelude.{ℕ, zero, suc, ◌+◌, ◌-◌, ◌≤◌, ◌<◌, ◌≡◌, take, set, replicate}
use mathlib.Core.List.{List, [], ◌∷◌, ◌++◌, append_assoc, append-nil}
use Rattle.std.proofs.Math.Path.{refl, sym, ap}
use Rattle.std.proofs.Common.{◌∙◌, add-zero, add-suc, length-append, length-drop, take-append-drop, drop_at, drop-drop}
use Rattle.std.proofs.Math.Numerals.{add-one}
use native.Mathlib.Omega.{arith}
use Rattle.std.proofs.Math.ListN.{length, drop, get_or, get_or-append}
use Rattle.std.proofs.lemmas.List.{length-replicate, get_or-replicate}
use Rattle.std.proofs.Math.Seq.{take_at, drop-cons, set_at, get_or-append-add, get_or-drop, take-length}
use Rattle.bits.specs.Parts.{joined, tab}
use Rattle.bits.specs.PartsLaws.{joined-more, length-tab, get_or-tab, tab-cong, tab-list}
use Rattle.excitation.specs.Front.{front}

pub tab-next : (f : ℕ → ℕ) (n : ℕ) → tab (n + 1) f ≡ tab n f ++ (f n ∷ [])
unfolding tab
tab-next f n = joined-more n (λ i. f i ∷ [])

pub tab-split : (f : ℕ → ℕ) (a k : ℕ) → tab a f ++ tab k (λ i. f (a + i)) ≡ tab (a + k) f
unfolding tab joined
tab-split f a zero = rw (add-zero a) (append-nil (joined a (λ i. f i ∷ [])))
tab-split f a (suc k) =
    rw (add-suc a k)
    (sym (append_assoc (tab a f) (tab k (λ i. f (a + i))) (f (a + k) ∷ [])) ∙ ap (λ (t : List ℕ). t ++ (f (a + k) ∷ [])) (tab-split f a k))

module _ (f : ℕ → ℕ) where
  -- what begins with the first n values is so filled
  pub front-begin : (n : ℕ) (l : List ℕ) → take n l ≡ tab n f → l ≡ front f n l
  unfolding front
  front-begin n l e = sym (take-append-drop n l) ∙ ap (λ (t : List ℕ). t ++ drop n l) e

  pub front-none : (l : List ℕ) → l ≡ front f 0 l
  unfolding front tab joined
  front-none l = refl

  -- one more entry stored
  pub front-more : (n v : ℕ) (xs l : List ℕ) → n < length l → xs ≡ front f n l → v ≡ f n → set xs n v ≡ front f (n + 1) l
  unfolding front
  front-more n v xs l h e q =
      rw (e, drop-cons l n 0 h, set_at (tab n f) (get_or l n 0) (drop (suc n) l) v n (length-tab n f), q, tab-next f n, add-one n)
      (sym (append_assoc (tab n f) (f n ∷ []) (drop (suc n) l)))

  pub length_front : (n : ℕ) (l : List ℕ) → n ≤ length l → length (front f n l) ≡ length l
  unfolding front
  length_front n l h = rw (length-append, length-tab n f, length-drop) (omega arith)

  pub take-front : (n : ℕ) (l : List ℕ) → take n (front f n l) ≡ tab n f
  unfolding front
  take-front n l = take_at (tab n f) (drop n l) n (length-tab n f)

  pub get_d_front : (n : ℕ) (l : List ℕ) (i : ℕ) → i < n → get_or (front f n l) i 0 ≡ f i
  unfolding front
  get_d_front n l i h = get_or-append (tab n f) (drop n l) 0 i (omega (arith, length-tab n f)) ∙ get_or-tab n f i h

  pub get_or-behind : (n : ℕ) (l : List ℕ) (i : ℕ) → n ≤ i → get_or (front f n l) i 0 ≡ get_or l i 0
  unfolding front
  get_or-behind n l i h =
      let e : length (tab n f) + (i - n) ≡ i = omega (arith, length-tab n f) in
      let z : n + (i - n) ≡ i = omega arith in
      let g : get_or (tab n f ++ drop n l) (length (tab n f) + (i - n)) 0 ≡ get_or l (n + (i - n)) 0 =
      get_or-append-add (tab n f) (drop n l) (i - n) 0 ∙ get_or-drop n l (i - n) 0 in
      rw z at (rw e at g)

pub front-front : (f : ℕ → ℕ) (a n : ℕ) (l : List ℕ) → a ≤ n → front f n (front f a l) ≡ front f n l
unfolding front
front-front f a n l h =
    let z : a + (n - a) ≡ n = omega arith in
    let e : drop (a + (n - a)) (tab a f ++ drop a l) ≡ drop (a + (n - a)) l =
    sym (drop-drop (n - a) a (tab a f ++ drop a l)) ∙ ap (drop (n - a)) (drop_at (tab a f) (drop a l) a (length-tab a f)) ∙ drop-drop (n - a) a l in
    ap (λ (t : List ℕ). tab n f ++ t) (rw z at e)

-- behind the entries of f stand zeros, which are those of f too
pub front-zeros : (f : ℕ → ℕ) (n m : ℕ) → n ≤ m → ((i : ℕ) → n ≤ i → i < m → f i ≡ 0) → front f n (replicate m 0) ≡ tab m f
unfolding front
front-zeros f n m h none =
    let l : List ℕ = drop n (replicate m 0) in
    let k : length l ≡ m - n = rw (length-drop, length-replicate) refl in
    let z : n + (m - n) ≡ m = omega arith in
    let each : (i : ℕ) → i < m - n → f (n + i) ≡ get_or l i 0 = λ i u. none (n + i) (omega arith) (omega arith) ∙ sym (get_or-drop n (replicate m 0) i 0 ∙ get_or-replicate m (n + i) 0 0 (omega arith)) in
    let e : tab (m - n) (λ i. f (n + i)) ≡ l = tab-cong (λ i. f (n + i)) (λ i. get_or l i 0) (m - n) each ∙ tab-list 0 l (m - n) (omega arith) ∙ ap (λ (j : ℕ). take j l) (sym k) ∙ take-length l in
    rw (sym e) (tab-split f n (m - n) ∙ ap (λ (j : ℕ). tab j f) z)

pub tab-zeros : (f : ℕ → ℕ) (n : ℕ) → ((i : ℕ) → i < n → f i ≡ 0) → replicate n 0 ≡ tab n f
tab-zeros f n none = front-none f (replicate n 0) ∙ front-zeros f 0 n (omega arith) (λ i h l. none i l)
