-- The held excitation is A/52's (`excite-held`); no value is above the greatest band psd; and which bands a band depends on.
use Prim.Native.Nat.{ℕ, zero, suc, ◌+◌, ◌-◌, max, ◌≤◌}
use Rattle.std.specs.Prelude.{Bool, true, false, not, cond, ◌||◌, ◌≡◌, ltb, leb, ℤ, pos, ◌-ℤ◌}
use Rattle.std.proofs.Math.Path.{refl, sym}
use Rattle.std.proofs.Common.{ap, ◌∙◌, add-one, arith, leb-true, leb-false, lt-ltb, le-ltb, le-leb}
use Rattle.std.proofs.lemmas.Bool.{lt-leb}
use Rattle.excitation.specs.Excitation.{begin, lowcomp, leak_by, fastleak, slowleak, excite}
use Rattle.excitation.specs.Signed.{int_max, hold}
use Rattle.excitation.specs.SignedLaws.{hold-sub, hold-max}
use Rattle.excitation.specs.Held.{next_lowcomp, next_leak, held_excite, next_begun, stepped, after}
use Rattle.excitation.specs.declared.excitation.LeakParameters.{LeakParameters}
use Rattle.excitation.specs.declared.excitation.LeakState.{LeakState}

-- one more band, as a loop counts
pub after_more : (p : LeakParameters) (lfe : Bool) (b : ℕ → ℕ) (k : ℕ) → stepped p lfe (after p lfe b k) (b k) (b (k + 1)) k ≡ after p lfe b (k + 1)
unfolding after
after_more p lfe b k = rw (add-one k)

-- ---- the flag is the test of `begin`

-- the flag before band k
begun_before : (ℕ → ℕ) → ℕ → Bool
begun_before b zero = false
begun_before b (suc k) = next_begun (begun_before b k) (b k) (b (suc k)) k

-- `begin` by its four tests: its bounds, and the flag before bands 3 to 6
turn : Bool → Bool → Bool → Bool → ℕ
turn c d e f = cond c 3 (cond d 4 (cond e 5 (cond f 6 7)))

turn-least : (c d e f : Bool) → 3 ≤ turn c d e f
unfolding turn
turn-least true d e f = omega arith
turn-least false true e f = omega arith
turn-least false false true f = omega arith
turn-least false false false true = omega arith
turn-least false false false false = omega arith

turn-most : (c d e f : Bool) → turn c d e f ≤ 7
unfolding turn
turn-most true d e f = omega arith
turn-most false true e f = omega arith
turn-most false false true f = omega arith
turn-most false false false true = omega arith
turn-most false false false false = omega arith

record Turned (c d e f : Bool) : Type 0 where
  three : c ≡ leb (turn c d e f) 3
  four : (c || d) ≡ leb (turn c d e f) 4
  five : ((c || d) || e) ≡ leb (turn c d e f) 5
  six : (((c || d) || e) || f) ≡ leb (turn c d e f) 6

turned : (c d e f : Bool) → Turned c d e f
unfolding turn
turned true d e f = record { three = refl; four = refl; five = refl; six = refl }
turned false true e f = record { three = refl; four = refl; five = refl; six = refl }
turned false false true f = record { three = refl; four = refl; five = refl; six = refl }
turned false false false true = record { three = refl; four = refl; five = refl; six = refl }
turned false false false false = record { three = refl; four = refl; five = refl; six = refl }

or-true : (t : Bool) → (t || true) ≡ true
or-true true = refl
or-true false = refl

module _ (b : ℕ → ℕ) where
  begin-least : 3 ≤ begin b
  unfolding begin turn
  begin-least = turn-least (leb (b 2) (b 3)) (leb (b 3) (b 4)) (leb (b 4) (b 5)) (leb (b 5) (b 6))

  begin-most : begin b ≤ 7
  unfolding begin turn
  begin-most = turn-most (leb (b 2) (b 3)) (leb (b 3) (b 4)) (leb (b 4) (b 5)) (leb (b 5) (b 6))

  tests : Turned (leb (b 2) (b 3)) (leb (b 3) (b 4)) (leb (b 4) (b 5)) (leb (b 5) (b 6))
  tests = turned (leb (b 2) (b 3)) (leb (b 3) (b 4)) (leb (b 4) (b 5)) (leb (b 5) (b 6))

  begun-past : (k : ℕ) → 6 ≤ k → begun_before b (suc k) ≡ true
  unfolding begun_before next_begun
  begun-past k h = rw (le-leb 6 k h) (or-true (begun_before b k))

  begun-is : (k : ℕ) → begun_before b k ≡ leb (begin b) k
  unfolding begun_before next_begun begin turn
  begun-is zero = sym (lt-leb (begin b) 0 (omega (arith, begin-least)))
  begun-is (suc zero) = sym (lt-leb (begin b) 1 (omega (arith, begin-least)))
  begun-is (suc (suc zero)) = sym (lt-leb (begin b) 2 begin-least)
  begun-is (suc (suc (suc zero))) = tests.three
  begun-is (suc (suc (suc (suc zero)))) = tests.four
  begun-is (suc (suc (suc (suc (suc zero))))) = tests.five
  begun-is (suc (suc (suc (suc (suc (suc zero)))))) = tests.six
  begun-is (suc (suc (suc (suc (suc (suc (suc k))))))) =
      begun-past (suc (suc (suc (suc (suc (suc k)))))) (omega arith) ∙ sym (le-leb (begin b) _ (omega (arith, begin-most)))

  below-begin : (k : ℕ) → ltb k (begin b) ≡ not (begun_before b k)
  below-begin k = go (leb (begin b) k) refl ∙ ap not (sym (begun-is k))
    where
      go : (t : Bool) → leb (begin b) k ≡ t → ltb k (begin b) ≡ not t
      go true e = le-ltb k (begin b) (leb-true (begin b) k e)
      go false e = lt-ltb k (begin b) (leb-false (begin b) k e)

after-begun : (p : LeakParameters) (lfe : Bool) (b : ℕ → ℕ) (k : ℕ) → (after p lfe b k).begun ≡ begun_before b k
unfolding after stepped begun_before
after-begun p lfe b zero = refl
after-begun p lfe b (suc k) = rw (after-begun p lfe b k)

-- ---- the held values are A/52's

lowcomp-held : (p : LeakParameters) (lfe : Bool) (b : ℕ → ℕ) (k : ℕ) → lowcomp lfe b k ≡ (after p lfe b (suc k)).lowcomp
unfolding lowcomp after stepped next_lowcomp
lowcomp-held p true b zero = refl
lowcomp-held p false b zero = refl
lowcomp-held p lfe b (suc k) = rw (lowcomp-held p lfe b k)

-- one band of a leak
leak-step : (t : Bool) (x : ℤ) (l decay b gain : ℕ) → hold x ≡ l
    → hold (cond (not t) (pos b -ℤ pos gain) (int_max (x -ℤ pos decay) (pos b -ℤ pos gain))) ≡ next_leak t l decay b gain
unfolding next_leak
leak-step true x l decay b gain e = rw (hold-max (x -ℤ pos decay) (pos b -ℤ pos gain), hold-sub x decay, hold-sub (pos b) gain, e)
leak-step false x l decay b gain e = hold-sub (pos b) gain

-- a leak held at each band, by its steps
leak-held : (gain decay : ℕ) (b l : ℕ → ℕ) → ((k : ℕ) → l (suc k) ≡ next_leak (begun_before b k) (l k) decay (b k) gain)
    → (k : ℕ) → hold (leak_by gain decay b k) ≡ l (suc k)
unfolding leak_by next_leak begun_before
leak-held gain decay b l h zero = rw (h 0) (hold-sub (pos (b 0)) gain)
leak-held gain decay b l h (suc k) =
    rw (below-begin b (suc k), h (suc k)) (leak-step (begun_before b (suc k)) (leak_by gain decay b k) (l (suc k)) decay (b (suc k)) gain (leak-held gain decay b l h k))

excite-step : (t u : Bool) (fast slow : ℤ) (low : ℕ)
    → hold (cond (not t) (fast -ℤ pos low) (cond u (int_max (fast -ℤ pos low) slow) (int_max fast slow)))
    ≡ cond t (max (cond u (hold fast - low) (hold fast)) (hold slow)) (hold fast - low)
excite-step true true fast slow low = rw (hold-max (fast -ℤ pos low) slow, hold-sub fast low)
excite-step true false fast slow low = hold-max fast slow
excite-step false u fast slow low = hold-sub fast low

module _ (p : LeakParameters) (lfe : Bool) (b : ℕ → ℕ) where
  fast-held : (k : ℕ) → hold (fastleak p b k) ≡ (after p lfe b (suc k)).fastleak
  unfolding fastleak after stepped
  fast-held k = leak-held p.fgain p.fdecay b (λ n. (after p lfe b n).fastleak) (λ n. rw (after-begun p lfe b n)) k

  slow-held : (k : ℕ) → hold (slowleak p b k) ≡ (after p lfe b (suc k)).slowleak
  unfolding slowleak after stepped
  slow-held k = leak-held p.sgain p.sdecay b (λ n. (after p lfe b n).slowleak) (λ n. rw (after-begun p lfe b n)) k

  -- the code's excitation is A/52's, held to 0
  pub excite-held : (k : ℕ) → hold (excite p lfe b k) ≡ (after p lfe b (suc k)).excite
  unfolding excite after stepped held_excite
  excite-held k =
      rw (below-begin b k, ← fast-held k, ← slow-held k, ← lowcomp-held p lfe b k, after-begun p lfe b k)
      (excite-step (begun_before b k) (ltb k 22) (fastleak p b k) (slowleak p b k) (lowcomp lfe b k))

-- ---- no value is above the greatest band

next_leak-le : (t : Bool) (l d b g M : ℕ) → l ≤ M → b ≤ M → next_leak t l d b g ≤ M
unfolding next_leak
next_leak-le true l d b g M hl hb = omega arith
next_leak-le false l d b g M hl hb = omega arith

held_excite-le : (t : Bool) (k fast slow low M : ℕ) → fast ≤ M → slow ≤ M → held_excite t k fast slow low ≤ M
unfolding held_excite
held_excite-le false k fast slow low M hf hs = omega arith
held_excite-le true k fast slow low M hf hs = go (ltb k 22)
  where
    go : (u : Bool) → max (cond u (fast - low) fast) slow ≤ M
    go true = omega arith
    go false = omega arith

pub record Bounded (M : ℕ) (s : LeakState) : Type 0 where
  pub fast≤ : s.fastleak ≤ M
  pub slow≤ : s.slowleak ≤ M
  pub excite≤ : s.excite ≤ M

pub after-le : (p : LeakParameters) (lfe : Bool) (b : ℕ → ℕ) (M : ℕ) → ((k : ℕ) → b k ≤ M) → (k : ℕ) → Bounded M (after p lfe b k)
unfolding after stepped
after-le p lfe b M h zero = record { fast≤ = omega arith; slow≤ = omega arith; excite≤ = omega arith }
after-le p lfe b M h (suc k) =
    let s = after p lfe b k in
    let r = after-le p lfe b M h k in
    let f = next_leak-le s.begun s.fastleak p.fdecay (b k) p.fgain M r.fast≤ (h k) in
    let g = next_leak-le s.begun s.slowleak p.sdecay (b k) p.sgain M r.slow≤ (h k) in
    record { fast≤ = f; slow≤ = g; excite≤ = held_excite-le s.begun k _ _ _ M f g }

-- ---- band k depends on the psds of bands 0 to k + 1 only

module _ (p : LeakParameters) (lfe : Bool) (b c : ℕ → ℕ) where
  pub after_same : (k : ℕ) → ((i : ℕ) → i ≤ k → b i ≡ c i) → after p lfe b k ≡ after p lfe c k
  unfolding after
  after_same zero h = refl
  after_same (suc k) h = rw (h k (omega arith), h (suc k) (omega arith), after_same k (λ i l. h i (omega arith)))

  below-same : (k : ℕ) → ((i : ℕ) → i ≤ k → b i ≡ c i) → ltb k (begin b) ≡ ltb k (begin c)
  below-same k h =
      let e : begun_before b k ≡ begun_before c k = sym (after-begun p lfe b k) ∙ ap (λ (s : LeakState). s.begun) (after_same k h) ∙ after-begun p lfe c k in
      below-begin b k ∙ ap not e ∙ sym (below-begin c k)

  lowcomp-same : (k : ℕ) → ((i : ℕ) → i ≤ suc k → b i ≡ c i) → lowcomp lfe b k ≡ lowcomp lfe c k
  lowcomp-same k h = lowcomp-held p lfe b k ∙ ap (λ (s : LeakState). s.lowcomp) (after_same (suc k) h) ∙ sym (lowcomp-held p lfe c k)

  leak-same : (gain decay k : ℕ) → ((i : ℕ) → i ≤ k → b i ≡ c i) → leak_by gain decay b k ≡ leak_by gain decay c k
  unfolding leak_by
  leak-same gain decay zero h = rw (h 0 (omega arith))
  leak-same gain decay (suc k) h =
      rw (below-same (suc k) h, h (suc k) (omega arith), leak-same gain decay k (λ i l. h i (omega arith)))

  pub excite-same : (k : ℕ) → ((i : ℕ) → i ≤ suc k → b i ≡ c i) → excite p lfe b k ≡ excite p lfe c k
  unfolding excite fastleak slowleak
  excite-same k h =
      let g : (i : ℕ) → i ≤ k → b i ≡ c i = λ i l. h i (omega arith) in
      rw (below-same k g, leak-same p.fgain p.fdecay k g, leak-same p.sgain p.sdecay k g, lowcomp-same k h)
