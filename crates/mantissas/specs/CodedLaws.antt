-- What `Coded` says, and that the tests of Stream.antt are tests of it.
use Rattle.std.specs.Prelude.{◌≡◌, refl, true, List, [], ◌∷◌, ◌++◌, ℕ, zero, suc, ◌<◌, ltb, length, take, drop}
use Rattle.std.proofs.Common.{sym, ap, true≢false, arith, lt-ltb, ltb-true}
use Rattle.bits.specs.Parts.{joined}
use Rattle.bits.specs.Tests.{both}
use Rattle.mantissas.specs.Inner.{Below, nil, cons, Coded, empty, bin}
use Rattle.mantissas.specs.Ranges.{levels}
use Rattle.mantissas.specs.Stream.{coded, baps_fit}

pub coded-length : {bs cs : List ℕ} → Coded bs cs → length bs ≡ length cs
coded-length empty = refl
coded-length (bin hb hc h) = ap suc (coded-length h)

pub coded-baps : {bs cs : List ℕ} → Coded bs cs → Below 16 bs
coded-baps empty = nil
coded-baps (bin hb hc h) = cons hb (coded-baps h)

pub coded-drop : (i : ℕ) {bs cs : List ℕ} → Coded bs cs → Coded (drop i bs) (drop i cs)
coded-drop zero h = h
coded-drop (suc i) empty = empty
coded-drop (suc i) (bin hb hc h) = coded-drop i h

pub coded-take : (i : ℕ) {bs cs : List ℕ} → Coded bs cs → Coded (take i bs) (take i cs)
coded-take zero h = empty
coded-take (suc i) empty = empty
coded-take (suc i) (bin hb hc h) = bin hb hc (coded-take i h)

coded-append : {bs cs ds es : List ℕ} → Coded bs cs → Coded ds es → Coded (bs ++ ds) (cs ++ es)
coded-append empty k = k
coded-append (bin hb hc h) k = bin hb hc (coded-append h k)

pub coded-joined : (n : ℕ) (f g : ℕ → List ℕ) → ((i : ℕ) → i < n → Coded (f i) (g i)) → Coded (joined n f) (joined n g)
unfolding joined
coded-joined zero f g h = empty
coded-joined (suc n) f g h = coded-append (coded-joined n f g (λ i l. h i (omega arith))) (h n (omega arith))

-- ---- the tests

pub coded-true : (bs cs : List ℕ) → coded bs cs ≡ true → Coded bs cs
unfolding coded
coded-true [] [] e = empty
coded-true [] (c ∷ cs) e = absurd (true≢false (sym e))
coded-true (b ∷ bs) [] e = absurd (true≢false (sym e))
coded-true (b ∷ bs) (c ∷ cs) e =
    let h = both (ltb b 16) _ e in
    let l = both (ltb c (levels b)) (coded bs cs) h.1 in
    bin (ltb-true b 16 h.0) (ltb-true c (levels b) l.0) (coded-true bs cs l.1)

pub coded-is : {bs cs : List ℕ} → Coded bs cs → coded bs cs ≡ true
unfolding coded
coded-is empty = refl
coded-is (bin {b} {c} hb hc h) = rw (lt-ltb b 16 hb, lt-ltb c (levels b) hc) (coded-is h)

pub baps-true : (bs : List ℕ) → baps_fit bs ≡ true → Below 16 bs
unfolding baps_fit
baps-true [] e = nil
baps-true (b ∷ bs) e = let h = both (ltb b 16) (baps_fit bs) e in cons (ltb-true b 16 h.0) (baps-true bs h.1)

pub baps-are : {bs : List ℕ} → Below 16 bs → baps_fit bs ≡ true
unfolding baps_fit
baps-are nil = refl
baps-are (cons {x = b} hb h) = rw (lt-ltb b 16 hb) (baps-are h)
