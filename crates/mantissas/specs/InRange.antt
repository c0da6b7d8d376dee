-- Every code that is read is in range for its bap, whatever the bits are.
use Rattle.std.specs.Prelude.{◌≡◌, Bool, ℕ, zero, suc, ◌^◌, ◌≤◌, ◌<◌, eqb, ltb}
use mathlib.Core.List.{List, [], ◌∷◌, head_d, tail}
use Rattle.std.proofs.Common.{arith, eqb-true, ltb-true}
use Rattle.bits.specs.Reading.{Outcome, ok, fault, read_bits}
use Rattle.bits.specs.Readers.{fault-not-ok}
use Rattle.bits.specs.ReadingLaws.{then_ok}
use Rattle.bits.specs.declared.refusal.Refusal.TheVariants as refusal
use Rattle.bits.specs.Tests.{by_bool}
use Rattle.mantissas.specs.Digits.{digits}
use Rattle.mantissas.specs.Inner.{Below, nil, cons, Coded, empty, bin}
use Rattle.mantissas.specs.DigitsLaws.{digits-below}
use Rattle.mantissas.specs.Ranges.{size, levels, width}
use Rattle.mantissas.specs.RangesLaws.{row}
use Rattle.mantissas.specs.State.{update}
use Rattle.mantissas.specs.Stream.{judged, read_group, members, read_from, read_stream}

-- what a reading gives is one value
ok-value : {A : Type 0} (a b : A) (r s : List Bool) → ◌≡◌ {A = Outcome A} (ok a r) (ok b s) → a ≡ b
ok-value a b r s e = cc

-- a value that is not refused is a group's
judged-lt : (b v : ℕ) (rest : List Bool) (x : ℕ) (t : List Bool) → judged b v rest ≡ ok x t → x < levels b ^ size b
unfolding judged
judged-lt b v rest x t e =
    by_bool (ltb v (levels b ^ size b))
    (λ q. let z : v ≡ x = ok-value v x rest t (rw q at e) in rw (← z) (ltb-true v (levels b ^ size b) q))
    (λ q. let f : ◌≡◌ {A = Outcome ℕ} (fault refusal.NoCode) (ok x t) = rw q at e in absurd (fault-not-ok f))

-- the codes at hand: at least one, each in range
pub data Handful (m : ℕ) : List ℕ → Type 0 where
  some : {c : ℕ} {q : List ℕ} → c < m → Below m q → Handful m (c ∷ q)

digits-handful : (m n v : ℕ) → 1 ≤ n → Below m (digits m n v) → Handful m (digits m n v)
unfolding digits
digits-handful m zero v h b = absurd (omega arith)
digits-handful m (suc n) v h (cons hx hl) = some hx hl

members-handful : (b : ℕ) (p : List ℕ) (bits : List Bool) (q : List ℕ) (t : List Bool) → b < 16 → Below (levels b) p → members b p bits ≡ ok q t
    → Handful (levels b) q
unfolding members read_group
members-handful b [] bits q t hb hp e =
    let r = row b hb in
    then_ok (read_group b bits) _ q t e (λ v s h g.
    then_ok (read_bits (width b) bits) (judged b) v s h (λ u w i j.
    let z : digits (levels b) (size b) v ≡ q = ok-value _ q s t g in
    let d = digits-below (levels b) (size b) v r.levels-least (judged-lt b u w v s j) in
    rw (← z) (digits-handful (levels b) (size b) v r.size-least d)))
members-handful b (c ∷ p) bits q t hb (cons hc hp) e =
    let z : c ∷ p ≡ q = ok-value (c ∷ p) q bits t e in
    rw (← z) (some hc hp)

-- the codes that wait are in range
abbrev Waiting : (ℕ → List ℕ) → Type 0
Waiting p = (k : ℕ) → Below (levels k) (p k)

waiting-step : (p : ℕ → List ℕ) (b : ℕ) (q : List ℕ) → Waiting p → Below (levels b) q → Waiting (update p b q)
unfolding update
waiting-step p b q h l k =
    by_bool (eqb k b)
    (λ e. rw (e, eqb-true k b e) l)
    (λ e. rw e (h k))

head_in : {m : ℕ} {q : List ℕ} → Handful m q → head_d q 0 < m
unfolding head_d
head_in (some h l) = h

tail-in : {m : ℕ} {q : List ℕ} → Handful m q → Below m (tail q)
tail-in (some h l) = l

from-coded : {bs : List ℕ} (p : ℕ → List ℕ) (bits : List Bool) (cs : List ℕ) (t : List Bool) → Below 16 bs → Waiting p → read_from p bs bits ≡ ok cs t
    → Coded bs cs
unfolding read_from
from-coded p bits cs t nil w e = let z : [] ≡ cs = ok-value [] cs bits t e in rw (← z) empty
from-coded p bits cs t (cons {x = b} {l = bs} hb h) w e =
    then_ok (members b (p b) bits) _ cs t e (λ q rest m g.
    let u = members-handful b (p b) bits q rest hb (w b) m in
    then_ok (read_from (update p b (tail q)) bs rest) _ cs t g (λ ds s i j.
    let z : head_d q 0 ∷ ds ≡ cs = ok-value (head_d q 0 ∷ ds) cs s t j in
    rw (← z) (bin hb (head_in u) (from-coded (update p b (tail q)) rest ds s h (waiting-step p b (tail q) w (tail-in u)) i))))

pub read-coded : {bs cs : List ℕ} (bits rest : List Bool) → Below 16 bs → read_stream bs bits ≡ ok cs rest → Coded bs cs
unfolding read_stream
read-coded {bs} {cs} bits rest h e = from-coded (λ k. []) bits cs rest h (λ k. nil) e
