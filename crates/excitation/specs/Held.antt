-- The excitation as the code has it, not as A/52 7.2.2.4 writes it: one step for each band over the natural numbers, each value held to 0 where
-- it would be negative. specs/HeldLaws.antt shows that it is A/52's, held to 0.
use Rattle.std.specs.Prelude.{ℕ, zero, suc, ◌-◌, max, Bool, false, cond, ◌&&◌, ◌||◌, List, ltb, leb, eqb, get_or}
use Rattle.excitation.specs.Excitation.{calc_lowcomp}
use Rattle.excitation.specs.declared.excitation.LeakParameters.{LeakParameters}
use Rattle.excitation.specs.declared.excitation.LeakState.{LeakState}

-- lowcomp after a band, from a before it
unfoldable pub next_lowcomp : Bool → ℕ → ℕ → ℕ → ℕ → ℕ
next_lowcomp lfe a b0 b1 band = cond (lfe && eqb band 6) a (calc_lowcomp a b0 b1 band)

-- a leak after a band: it decays once `begin` is reached
unfoldable pub next_leak : Bool → ℕ → ℕ → ℕ → ℕ → ℕ
next_leak begun leak decay b0 gain = cond begun (max (leak - decay) (b0 - gain)) (b0 - gain)

-- the excitation of a band
unfoldable pub held_excite : Bool → ℕ → ℕ → ℕ → ℕ → ℕ
held_excite begun band fast slow low = cond begun (max (cond (ltb band 22) (fast - low) fast) slow) (fast - low)

-- whether the next band is at `begin` or past it
unfoldable pub next_begun : Bool → ℕ → ℕ → ℕ → Bool
next_begun begun b0 b1 band = begun || (leb 6 band || (leb 2 band && leb b0 b1))

-- what a band leaves to the next one, and its excitation
unfoldable pub stepped : LeakParameters → Bool → LeakState → ℕ → ℕ → ℕ → LeakState
stepped p lfe s b0 b1 band =
    let low = next_lowcomp lfe s.lowcomp b0 b1 band in
    let fast = next_leak s.begun s.fastleak p.fdecay b0 p.fgain in
    let slow = next_leak s.begun s.slowleak p.sdecay b0 p.sgain in
    record {
      lowcomp = low;
      fastleak = fast;
      slowleak = slow;
      excite = held_excite s.begun band fast slow low;
      begun = next_begun s.begun b0 b1 band;
    }

-- before the first band
abbrev pub start : LeakState
start = record { lowcomp = 0; fastleak = 0; slowleak = 0; excite = 0; begun = false }

-- after k bands
unfoldable pub after : LeakParameters → Bool → (ℕ → ℕ) → ℕ → LeakState
after p lfe b zero = start
after p lfe b (suc k) = stepped p lfe (after p lfe b k) (b k) (b (suc k)) k

-- the excitation of a band, by the psds of the bands as a list
unfoldable pub excited_by : LeakParameters → Bool → List ℕ → ℕ → ℕ
excited_by p lfe powers band = (after p lfe (λ k. get_or powers k 0) (suc band)).excite
