-- The bands that the segments before the present one cover, and those behind them, as the loop over segments finds them.
use Prim.Native.Nat.{ℕ, ◌+◌, ◌-◌, min, ◌≤◌, ◌<◌}
use mathlib.Core.List.{List, [], ◌∷◌, ◌++◌}
use mathlib.Core.Path.{◌≡◌, refl, sym, ap, ◌∙◌}
use native.Mathlib.Decide.{dec_lt}
use native.Mathlib.Numerals.{add-one}
use native.Mathlib.Omega.{arith}
use lib.Seq.{drop-cons}
use lib.ListN.{length, take, drop, get_or, replicate, length-replicate, get_or-replicate, get_or-append, drop_of_length-le}
use Rattle.std.proofs.Common.{length-take, length-drop, length-take-le, take_all, get_or-take, get_or-drop}
use Rattle.std.proofs.lemmas.List.{get_or-append_right}
use borrow.Author.Tests.{lt-ltb, le-ltb}
use Rattle.bits.specs.Parts.{tab}
use Rattle.bits.specs.PartsLaws.{tab-cong, tab-list, placed, placed-length}
use Rattle.elements.specs.declared.segment.Segment.{Segment}
use Rattle.masking.specs.Held.{held_delta, held_from, held_deltas}

-- the segments before segment i end at band `at`: what they add stands before it, nothing is added from it on, and the other segments say the rest
pub record Spread (segments : List Segment) (i at : ℕ) (added : List ℕ) : Type 0 where
  pub at≤ : at ≤ 50
  pub long : length added ≡ 50
  pub before : (k : ℕ) → k < at → get_or added k 0 ≡ held_deltas segments k
  pub behind : (k : ℕ) → at ≤ k → k < 50 → get_or added k 0 ≡ 512
  pub rest : (k : ℕ) → at ≤ k → k < 50 → held_deltas segments k ≡ held_from (drop i segments) at k

pub spread-start : (segments : List Segment) → Spread segments 0 0 (replicate 50 512)
unfolding held_deltas
spread-start segments =
    record {
      at≤ = omega arith;
      long = length-replicate {A = ℕ} 50 512;
      before = λ k l. absurd (omega arith);
      behind = λ k h l. get_or-replicate {A = ℕ} 50 k 512 0 l;
      rest = λ k h l. refl;
    }

-- ---- a part that is filled

module _ (l ys : List ℕ) (a k v : ℕ) (h : a + k ≤ length l) (e : ys ≡ replicate k v) where
  front-long : length (take a l) ≡ a
  front-long = length-take-le a l (omega arith)

  ys-long : length ys ≡ k
  ys-long = rw e (length-replicate {A = ℕ} k v)

  filled-front : (i : ℕ) → i < a → get_or (placed a k l ys) i 0 ≡ get_or l i 0
  filled-front i u = get_or-append (take a l) (ys ++ drop k (drop a l)) 0 i (omega (arith, front-long)) ∙ get_or-take a l i 0 u

  filled-part : (i : ℕ) → a ≤ i → i < a + k → get_or (placed a k l ys) i 0 ≡ v
  filled-part i u w =
      get_or-append_right (take a l) (ys ++ drop k (drop a l)) a i 0 front-long u
      ∙ get_or-append ys (drop k (drop a l)) 0 (i - a) (omega (arith, ys-long))
      ∙ rw e (get_or-replicate {A = ℕ} k (i - a) v 0 (omega arith))

  filled-behind : (i : ℕ) → a + k ≤ i → get_or (placed a k l ys) i 0 ≡ get_or l i 0
  filled-behind i u =
      let z : a + (k + (i - a - k)) ≡ i = omega arith in
      get_or-append_right (take a l) (ys ++ drop k (drop a l)) a i 0 front-long (omega arith)
      ∙ get_or-append_right ys (drop k (drop a l)) k (i - a) 0 ys-long (omega arith)
      ∙ get_or-drop k (drop a l) (i - a - k) 0
      ∙ get_or-drop a l (k + (i - a - k)) 0
      ∙ ap (λ (j : ℕ). get_or l j 0) z

-- ---- one segment more

-- what the segments from one on say of a band before it, in it and behind it
module _ (s : Segment) (others : List Segment) (at k : ℕ) where
  ahead : k < at + s.offst → held_from (s ∷ others) at k ≡ 512
  unfolding held_from
  ahead h = rw (lt-ltb k (at + s.offst) h)

  covered : at + s.offst ≤ k → k < at + s.offst + s.len → held_from (s ∷ others) at k ≡ held_delta s.ba
  unfolding held_from
  covered l h = rw (le-ltb k (at + s.offst) l, lt-ltb k (at + s.offst + s.len) h)

  past : at + s.offst + s.len ≤ k → held_from (s ∷ others) at k ≡ held_from others (at + s.offst + s.len) k
  unfolding held_from
  past h = rw (le-ltb k (at + s.offst) (omega arith), le-ltb k (at + s.offst + s.len) h)

pub spread-more : (segments : List Segment) (i at start stop : ℕ) (added ys : List ℕ) (s : Segment) → Spread segments i at added
    → drop i segments ≡ s ∷ drop (i + 1) segments → start ≡ min (at + s.offst) 50 → stop ≡ min (start + s.len) 50 → ys ≡ replicate (stop - start) (held_delta s.ba)
    → Spread segments (i + 1) stop (placed start (stop - start) added ys)
spread-more segments i at start stop added ys s p here es et ey =
    record {
      at≤ = omega arith;
      long = placed-length added ys start (stop - start) room (rw ey (length-replicate {A = ℕ} (stop - start) (held_delta s.ba))) ∙ p.long;
      before = λ k l. go k l (dec_lt k at) (dec_lt k start);
      behind = λ k h l. filled-behind added ys start (stop - start) (held_delta s.ba) room ey k (omega arith) ∙ p.behind k (omega arith) l;
      rest = λ k h l.
          let e : at + s.offst + s.len ≡ stop = omega arith in
          p.rest k (omega arith) l ∙ rw here (rw e at (past s (drop (i + 1) segments) at k (omega arith)));
    }
  where
    order : start ≤ stop
    order = omega (arith, p.at≤)

    room : start + (stop - start) ≤ length added
    room = omega (arith, p.long, order)

    go : (k : ℕ) → k < stop → Dec (k < at) → Dec (k < start) → get_or (placed start (stop - start) added ys) k 0 ≡ held_deltas segments k
    go k l (yes a) b =
        filled-front added ys start (stop - start) (held_delta s.ba) room ey k (omega (arith, p.at≤)) ∙ p.before k a
    go k l (no a) (yes b) =
        filled-front added ys start (stop - start) (held_delta s.ba) room ey k b ∙ p.behind k (omega (arith, a)) (omega arith)
        ∙ sym (p.rest k (omega (arith, a)) (omega arith) ∙ rw here (ahead s (drop (i + 1) segments) at k (omega arith)))
    go k l (no a) (no b) =
        filled-part added ys start (stop - start) (held_delta s.ba) room ey k (omega (arith, b)) (omega (arith, b))
        ∙ sym (p.rest k (omega (arith, a)) (omega arith) ∙ rw here (covered s (drop (i + 1) segments) at k (omega (arith, b)) (omega (arith, b))))

-- the same, as the loop over the segments finds it
pub spread-turn : (segments : List Segment) (i at start stop offst len n v : ℕ) (added ys : List ℕ) (d : Segment) → Spread segments i at added → i < length segments
    → offst ≡ (get_or segments i d).offst → start ≡ min (at + offst) 50 → len ≡ (get_or segments i d).len → stop ≡ min (start + len) 50
    → v ≡ held_delta (get_or segments i d).ba → n ≡ length (take (stop - start) (drop start added)) → ys ≡ replicate n v
    → Spread segments (i + 1) stop (placed start (stop - start) added ys)
spread-turn segments i at start stop offst len n v added ys d p h eo es el et ev en ey =
    let many : n ≡ stop - start = en ∙ (rw (length-take, length-drop) (omega (arith, p.long, p.at≤))) in
    spread-more segments i at start stop added ys (get_or segments i d) p (rw add-one (drop-cons segments i d h)) (rw eo at es) (rw el at et) (rw (← many, ← ev) ey)

-- past the last segment every band has what they add
none-left : (at k : ℕ) → held_from [] at k ≡ 512
unfolding held_from
none-left at k = refl

pub spread-end : (segments : List Segment) (i at : ℕ) (added : List ℕ) → length segments ≤ i → Spread segments i at added → added ≡ tab 50 (held_deltas segments)
spread-end segments i at added h s =
    let all : take 50 added ≡ added = take_all 50 added (omega (arith, s.long)) in
    sym all ∙ sym (tab-list 0 added 50 (omega (arith, s.long))) ∙ tab-cong (λ k. get_or added k 0) (held_deltas segments) 50 (λ k l. go k l (dec_lt k at))
  where
    go : (k : ℕ) → k < 50 → Dec (k < at) → get_or added k 0 ≡ held_deltas segments k
    go k l (yes a) = s.before k a
    go k l (no a) = s.behind k (omega (arith, a)) l ∙ sym (s.rest k (omega (arith, a)) l ∙ rw (drop_of_length-le segments h) (none-left at k))
