-- The turns of the shaped test: what was found so far, and that the bins from i on follow the rule, is what the whole test says.
use mathlib.Core.Path.{◌≡◌, refl, sym, ◌∙◌}
use mathlib.Core.Bool.{Bool, true, false, ◌&&◌, ◌||◌}
use mathlib.Core.List.{List, [], ◌∷◌}
use Prim.Native.Nat.{ℕ, zero, suc, ◌+◌, ◌-◌, ◌%◌, ◌≤◌, ◌<◌, min}
use native.Mathlib.Decide.{dec_lt}
use native.Mathlib.Nat.{zero-mod, mod-lt, mod-eq_of_lt, mod_self, suc-mod}
use native.Mathlib.Omega.{arith}
use lib.Dec.{leb, eqb}
use lib.ListN.{length, drop, get_or, drop_of_length-le}
use lib.Seq.{drop-cons}
use borrow.Author.Tests.{le-leb, eq-eqb, ne_eqb, leb-true, eqb-true}
use Rattle.bits.specs.Tests.{both}
use Rattle.shaping.specs.Shaped.{follows, shaped_for}

-- what `may_follow` says
abbrev pub follow : ℕ → ℕ → ℕ → Bool
follow place p x = leb x (p + 2) && (leb p (x + 2) && (leb x 24 && (eqb place 0 || eqb x p)))

-- how many bins of a span of g are still to come before the bin at place k: none where a span begins
abbrev pub left : ℕ → ℕ → ℕ
left g zero = 0
left g (suc k) = g - suc k

-- ---- one bin more

left-next : (g k : ℕ) → k < g → left g (suc k % g) ≡ g - suc k
left-next g k l = go (dec_lt (suc k) g)
  where
    go : Dec (suc k < g) → left g (suc k % g) ≡ g - suc k
    go (yes u) = rw (mod-eq_of_lt u)
    go (no u) =
        let e : g ≡ suc k = omega (arith, l, u) in
        let z : suc k % g ≡ 0 = rw e (mod_self (suc k)) in
        rw z (omega (arith, e))

begins : (h place p x : ℕ) (r : List ℕ) → place ≡ 0 → (follow place p x && follows h h x r) ≡ follows h 0 p (x ∷ r)
unfolding follows
begins h place p x r z = rw (eq-eqb place 0 z) (go (leb x (p + 2)) (leb p (x + 2)) (leb x 24) (follows h h x r))
  where
    go : (a b c d : Bool) → ((a && (b && (c && true))) && d) ≡ (a && (b && (c && d)))
    go true true true d = refl
    go true true false d = refl
    go true false c d = refl
    go false b c d = refl

inside : (h j place p x : ℕ) (r : List ℕ) → (place ≡ 0 → ⊥) → p ≤ 24 → (follow place p x && follows h j x r) ≡ follows h (suc j) p (x ∷ r)
unfolding follows
inside h j place p x r z b = rw (ne_eqb place 0 z) (go (eqb x p) refl)
  where
    none : (a b c d : Bool) → ((a && (b && (c && false))) && d) ≡ false
    none true true true d = refl
    none true true false d = refl
    none true false c d = refl
    none false b c d = refl

    go : (t : Bool) → eqb x p ≡ t → ((leb x (p + 2) && (leb p (x + 2) && (leb x 24 && eqb x p))) && follows h j x r) ≡ (eqb x p && follows h j p r)
    go true e =
        let q : x ≡ p = eqb-true x p e in
        rw (e, le-leb x (p + 2) (omega (arith, q)), le-leb p (x + 2) (omega (arith, q)), le-leb x 24 (omega (arith, q, b)), q)
    go false e = rw e (none (leb x (p + 2)) (leb p (x + 2)) (leb x 24) (follows h j x r))

bin-turn : (g k place p x : ℕ) (r : List ℕ) → place ≡ min k 255 → k < g → p ≤ 24
    → (follow place p x && follows (g - 1) (g - suc k) x r) ≡ follows (g - 1) (left g k) p (x ∷ r)
bin-turn g zero place p x r f l b = begins (g - 1) place p x r (omega (arith, f))
bin-turn g (suc k) place p x r f l b =
    let e : g - suc k ≡ suc (g - suc (suc k)) = omega (arith, l) in
    rw e (inside (g - 1) (g - suc (suc k)) place p x r (λ q. omega (arith, f, q)) b)

found_turn : (g k place p x : ℕ) (r : List ℕ) (ok : Bool) → place ≡ min k 255 → k < g → (ok ≡ true → p ≤ 24)
    → ((ok && follow place p x) && follows (g - 1) (left g (suc k % g)) x r) ≡ (ok && follows (g - 1) (left g k) p (x ∷ r))
found_turn g k place p x r false f l b = refl
found_turn g k place p x r true f l b = rw (left-next g k l) (bin-turn g k place p x r f l (b refl))

-- ---- the loop: bin i, and bin b before it

pub check-none : (xs : List ℕ) (h : ℕ) → length xs ≡ 0 → true ≡ shaped_for h xs
unfolding shaped_for
check-none [] h e = refl
check-none (x ∷ r) h e = absurd (omega arith)

pub check-start : (xs : List ℕ) (g : ℕ) → 0 < length xs
    → (leb (get_or xs 0 0) 15 && follows (g - 1) (left g (0 % g)) (get_or xs 0 0) (drop 1 xs)) ≡ shaped_for (g - 1) xs
unfolding shaped_for
check-start [] g e = absurd (omega arith)
check-start (x ∷ r) g e = rw (zero-mod g)

module _ (e : List ℕ) (g b i b' i' place : ℕ) (ok r : Bool) (t : r ≡ follow place (get_or e b 0) (get_or e i 0)) (to : b' ≡ i) where
  pub turn-most : (ok && r) ≡ true → get_or e b' 0 ≤ 24
  turn-most k =
      let one = both (leb (get_or e i 0) (get_or e b 0 + 2)) _ (sym t ∙ (both ok r k).1) in
      let two = both (leb (get_or e b 0) (get_or e i 0 + 2)) _ one.1 in
      rw to (leb-true (get_or e i 0) 24 (both (leb (get_or e i 0) 24) _ two.1).0)

  pub turn : (s : Bool) → (ok && follows (g - 1) (left g (b % g)) (get_or e b 0) (drop i e)) ≡ s → place ≡ min (b % g) 255 → (ok ≡ true → get_or e b 0 ≤ 24)
      → i ≡ suc b → i' ≡ suc i → 0 < g → i < length e → ((ok && r) && follows (g - 1) (left g (b' % g)) (get_or e b' 0) (drop i' e)) ≡ s
  turn s q f low a d w l =
      let n : i % g ≡ suc (b % g) % g = rw a (suc-mod b g) in
      rw (to, d, t, n) (found_turn g (b % g) place (get_or e b 0) (get_or e i 0) (drop (suc i) e) ok f (mod-lt b w) low ∙ rw (drop-cons e i 0 l) at q)

pub done : (e : List ℕ) (h j p i : ℕ) (ok s : Bool) → (ok && follows h j p (drop i e)) ≡ s → length e ≤ i → ok ≡ s
unfolding follows
done e h j p i true s q l = rw (drop_of_length-le e l) at q
done e h j p i false s q l = q
