-- lowcomp by a quotient, and how a loop over bands fills their excitations.
use Prim.Native.Nat.{ℕ, ◌+◌, ◌-◌, ◌*◌, ◌/◌, ◌≤◌, ◌<◌}
use mathlib.Core.Bool.{Bool, true, false, cond}
use mathlib.Core.List.{List}
use mathlib.Core.Path.{◌≡◌, refl, ap, ◌∙◌}
use native.Mathlib.Numerals.{add-one}
use native.Mathlib.Omega.{arith}
use lib.Dec.{ltb}
use lib.ListN.{length, get_or, set}
use borrow.Author.Tests.{ltb-true, ltb-false, ne_eqb}
use Rattle.excitation.specs.Excitation.{stepped_lowcomp}
use Rattle.excitation.specs.Held.{stepped, after, excited_by}
use Rattle.excitation.specs.HeldLaws.{after_more, after-le}
use Rattle.excitation.specs.declared.excitation.LeakParameters.{LeakParameters}
use Rattle.excitation.specs.declared.excitation.LeakState.{LeakState}
use Rattle.excitation.specs.Front.{front}
use Rattle.excitation.specs.FrontLaws.{front-more}

-- ---- lowcomp

-- what is taken off where b1 is below b0, by a quotient
pub fallen : (step a b0 b1 d : ℕ) → b0 ≤ 8191 → b1 ≤ 8191 → d ≡ a - 64 * ((65535 + b0 - b1) / 65536) → (b0 + 256 ≡ b1 → ⊥) → d ≡ stepped_lowcomp step a b0 b1
unfolding stepped_lowcomp
fallen step a b0 b1 d h0 h1 e n = rw (ne_eqb (b0 + 256) b1 n) (go (ltb b1 b0) refl)
  where
    go : (t : Bool) → ltb b1 b0 ≡ t → d ≡ cond t (a - 64) a
    go true q = let l = ltb-true b1 b0 q in let z : (65535 + b0 - b1) / 65536 ≡ 1 = omega arith in e ∙ rw z
    go false q = let l = ltb-false b1 b0 q in let z : (65535 + b0 - b1) / 65536 ≡ 0 = omega arith in e ∙ rw z (omega arith)

-- ---- the loops

-- the bands before the present one have their excitations
pub record Excited (p : LeakParameters) (lfe : Bool) (powers excites₀ : List ℕ) (leaks : LeakState) (band : ℕ) (excites : List ℕ) : Type 0 where
  pub leaks-are : leaks ≡ after p lfe (λ k. get_or powers k 0) band
  pub filled : excites ≡ front (excited_by p lfe powers) band excites₀

-- the leaks after the present band
next-leaks : (p : LeakParameters) (lfe : Bool) (powers excites₀ : List ℕ) (leaks leaks' : LeakState) (band : ℕ) (excites : List ℕ)
    → Excited p lfe powers excites₀ leaks band excites → leaks' ≡ stepped p lfe leaks (get_or powers band 0) (get_or powers (band + 1) 0) band
    → leaks' ≡ after p lfe (λ k. get_or powers k 0) (band + 1)
next-leaks p lfe powers excites₀ leaks leaks' band excites x l = l ∙ rw x.leaks-are (after_more p lfe (λ k. get_or powers k 0) band)

-- its excitation is not above the greatest psd
pub excited-most : (p : LeakParameters) (lfe : Bool) (powers excites₀ : List ℕ) (leaks leaks' : LeakState) (band : ℕ) (excites : List ℕ)
    → ((k : ℕ) → get_or powers k 0 ≤ 8191) → Excited p lfe powers excites₀ leaks band excites
    → leaks' ≡ stepped p lfe leaks (get_or powers band 0) (get_or powers (band + 1) 0) band → leaks'.excite ≤ 8191
excited-most p lfe powers excites₀ leaks leaks' band excites h x l =
    rw (next-leaks p lfe powers excites₀ leaks leaks' band excites x l) (after-le p lfe (λ k. get_or powers k 0) 8191 h (band + 1)).excite≤

pub excited-more : (p : LeakParameters) (lfe : Bool) (powers excites₀ : List ℕ) (leaks leaks' : LeakState) (band : ℕ) (excites : List ℕ)
    → length excites₀ ≡ 50 → band < 50 → Excited p lfe powers excites₀ leaks band excites
    → leaks' ≡ stepped p lfe leaks (get_or powers band 0) (get_or powers (band + 1) 0) band
    → Excited p lfe powers excites₀ leaks' (band + 1) (set excites band leaks'.excite)
unfolding excited_by
excited-more p lfe powers excites₀ leaks leaks' band excites n h x l =
    let b : ℕ → ℕ = λ k. get_or powers k 0 in
    let e : leaks' ≡ after p lfe b (band + 1) = next-leaks p lfe powers excites₀ leaks leaks' band excites x l in
    record {
      leaks-are = e;
      filled = front-more (excited_by p lfe powers) band leaks'.excite excites excites₀ (omega arith) x.filled (ap (λ (s : LeakState). s.excite) (e ∙ ap (after p lfe b) (add-one band)));
    }
