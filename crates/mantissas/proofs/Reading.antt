-- The stream, read bin by bin.
use Rattle.std.specs.Prelude.{◌≡◌, refl, Bool, List, [], ◌∷◌, ◌++◌, ℕ, zero, suc, ◌+◌, ◌-◌, ◌/◌, ◌%◌, ◌^◌, ◌≤◌, ◌<◌, length, take, drop, get_or, set, replicate}
use Rattle.std.proofs.Common.{sym, ◌∙◌, not-suc-le-zero, add-one, arith, append_assoc, append-nil, eqb-true, drop-cons, take-suc-set, take_all, get_or-set_same, get_or-set_other, drop_of_length-le}
use mathlib.Core.List.{head_d}
use mathlib.Core.Path.{fun_ext}
use lib.Dec.{eqb}
use borrow.Author.Tests.{eqb-false}
use Rattle.bits.specs.Read.{from}
use Rattle.bits.specs.Reading.{Outcome, ok, fault, then}
use Rattle.bits.specs.Tests.{by_bool}
use Rattle.bits.specs.declared.refusal.Refusal.{Refusal}
use Rattle.mantissas.specs.Digits.{digits}
use Rattle.mantissas.specs.Pending.{waiting}
use Rattle.mantissas.specs.Ranges.{size, levels, width}
use Rattle.mantissas.specs.RangesLaws.{row}
use Rattle.mantissas.specs.State.{update}
use Rattle.mantissas.specs.Stream.{read_group, members, read_from, read_stream}
use Rattle.mantissas.specs.declared.reader.Pending.{Pending}

abbrev pub nothing : Pending
nothing = record { left = 0; value = 0 }

-- ---- a group

pub waiting-none : (b : ℕ) (p : Pending) → p.left ≡ 0 → waiting b p ≡ []
unfolding waiting digits
waiting-none b p e = rw e

-- its first code, and those behind it
pub waiting-cons : (b : ℕ) (p : Pending) (q : ℕ) → 1 ≤ p.left → q ≡ levels b ^ (p.left - 1)
    → waiting b p ≡ p.value / q ∷ waiting b (record { left = p.left - 1; value = p.value % q })
unfolding waiting digits
waiting-cons b p q h e = rw e (go (levels b) p.left p.value h)
  where
    go : (m n v : ℕ) → 1 ≤ n → digits m n v ≡ v / m ^ (n - 1) ∷ digits m (n - 1) (v % m ^ (n - 1))
    go m zero v h = absurd (not-suc-le-zero h)
    go m (suc n) v h = let e : suc n - 1 ≡ n = omega arith in rw e

-- ---- what waits of each bap

unfoldable pub waits : List Pending → ℕ → List ℕ
waits pending k = waiting k (get_or pending k nothing)

-- less than a group of each bap
pub record Started (pending : List Pending) : Type 0 where
  pub less : (k : ℕ) → k < 16 → (get_or pending k nothing).left < size k

all-nothing : (n k : ℕ) → get_or (replicate n nothing) k nothing ≡ nothing
all-nothing zero k = refl
all-nothing (suc n) zero = refl
all-nothing (suc n) (suc k) = all-nothing n k

waits-nothing : waits (replicate 16 nothing) ≡ λ k. []
unfolding waits
waits-nothing = fun_ext (λ k. rw (all-nothing 16 k) (waiting-none k nothing refl))

pub started-nothing : Started (replicate 16 nothing)
started-nothing = record { less = λ k h. rw (all-nothing 16 k) (row k h).size-least }

waits-set : (pending : List Pending) (b : ℕ) (p : Pending) → b < length pending → waits (set pending b p) ≡ update (waits pending) b (waiting b p)
unfolding waits update
waits-set pending b p h =
    fun_ext (λ j. by_bool (eqb j b)
    (λ e. rw (e, eqb-true j b e, get_or-set_same pending b p nothing h))
    (λ e. rw (e, get_or-set_other pending b j p nothing (eqb-false j b e))))

pub started-set : {pending : List Pending} {b : ℕ} (p : Pending) → Started pending → b < length pending → p.left < size b → Started (set pending b p)
started-set {pending} {b} p s h l =
    record {
      less = λ k hk.
          by_bool (eqb k b)
          (λ e. let q = eqb-true k b e in rw (q, get_or-set_same pending b p nothing h) l)
          (λ e. rw (get_or-set_other pending b k p nothing (eqb-false k b e)) (s.less k hk));
    }

-- ---- the codes

-- with xs in front
unfoldable pub onto : List ℕ → Outcome (List ℕ) → Outcome (List ℕ)
onto xs (ok cs rest) = ok (xs ++ cs) rest
onto xs (fault k) = fault k

-- the codes up to bin i are in, and with those from there on they are what is found at the start
pub record Reading (bs : List ℕ) (bits : List Bool) (start : ℕ) (codes : List ℕ) (pos : ℕ) (pending : List Pending) (i : ℕ) : Type 0 where
  pub eq : onto (take i codes) (read_from (waits pending) (drop i bs) (from pos bits)) ≡ read_stream bs (from start bits)

onto-none : (f : Outcome (List ℕ)) → onto [] f ≡ f
unfolding onto
onto-none (ok cs rest) = refl
onto-none (fault k) = refl

onto-one : (xs : List ℕ) (c : ℕ) (f : Outcome (List ℕ)) → onto xs (then f (λ cs t. ok (c ∷ cs) t)) ≡ onto (xs ++ (c ∷ [])) f
unfolding onto
onto-one xs c (ok cs rest) = rw append_assoc
onto-one xs c (fault k) = refl

pub read-start : {bs codes : List ℕ} {bits : List Bool} {pos : ℕ} → Reading bs bits pos codes pos (replicate 16 nothing) 0
unfolding read_stream
read-start {bs} {codes} {bits} {pos} = record { eq = onto-none _ ∙ rw waits-nothing }

-- at a bin of bap b the group p is at hand, and the reading goes on at `at`
pub record AtHand (pending : List Pending) (b : ℕ) (bits : List Bool) (pos : ℕ) (p : Pending) (at : ℕ) : Type 0 where
  pub eq : members b (waits pending b) (from pos bits) ≡ ok (waiting b p) (from at bits)

-- a new one, where none waits
pub hand_new : {pending : List Pending} {b pos w v : ℕ} {bits : List Bool} {p : Pending} → (get_or pending b nothing).left ≡ 0
    → read_group b (from pos bits) ≡ ok v (from (pos + width b) bits) → w ≡ width b → p.left ≡ size b → p.value ≡ v → AtHand pending b bits pos p (pos + w)
unfolding members waits waiting
hand_new {pending} {b} {pos} {w} {v} {bits} {p} none e ew en ev =
    let z : waiting b (get_or pending b nothing) ≡ [] = waiting-none b (get_or pending b nothing) none in
    record { eq = rw (z, e, ew, en, ev) }

-- or the one that waits
pub hand-old : {pending : List Pending} {b pos c : ℕ} {bits : List Bool} {p : Pending} (q : Pending) → p ≡ get_or pending b nothing → waiting b p ≡ c ∷ waiting b q
    → AtHand pending b bits pos p pos
unfolding members waits
hand-old {pending} {b} {pos} {c} {bits} {p} q is e = record { eq = rw (← is, e) }

-- its first code is the bin's
pub read-turn : {bs codes : List ℕ} {pending : List Pending} {bits : List Bool} {start pos at i b c : ℕ} {p : Pending} (q : Pending) → Reading bs bits start codes pos pending i
    → i < length bs → i < length codes → b ≡ get_or bs i 0 → b < length pending → AtHand pending b bits pos p at → waiting b p ≡ c ∷ waiting b q
    → Reading bs bits start (set codes i c) at (set pending b q) (i + 1)
unfolding read_from head_d
read-turn {bs} {codes} {pending} {bits} {start} {pos} {at} {i} {b} {c} {p} q g h hc eb k hand e =
    let m : members b (waits pending b) (from pos bits) ≡ ok (c ∷ waiting b q) (from at bits) = rw (← e) hand.eq in
    let turn : onto (take i codes) (read_from (waits pending) (drop i bs) (from pos bits))
    ≡ onto (take (i + 1) (set codes i c)) (read_from (waits (set pending b q)) (drop (i + 1) bs) (from at bits)) =
    rw (add-one, drop-cons bs i 0 h, ← eb, m, take-suc-set codes i c hc, waits-set pending b q k) (onto-one (take i codes) c _) in
    record { eq = sym turn ∙ g.eq }

-- the field has a fault
pub read-fault : {bs codes : List ℕ} {pending : List Pending} {bits : List Bool} {start pos i b : ℕ} {k : Refusal} → Reading bs bits start codes pos pending i
    → i < length bs → b ≡ get_or bs i 0 → (get_or pending b nothing).left ≡ 0 → read_group b (from pos bits) ≡ fault k → read_stream bs (from start bits) ≡ fault k
unfolding read_from onto members waits
read-fault {bs} {codes} {pending} {bits} {start} {pos} {i} {b} {k} g h eb e m =
    sym g.eq ∙ rw (drop-cons bs i 0 h, ← eb, waiting-none b (get_or pending b nothing) e, m)

pub read-end : {bs codes : List ℕ} {pending : List Pending} {bits : List Bool} {start pos i : ℕ} → Reading bs bits start codes pos pending i
    → length bs ≤ i → length codes ≤ i → read_stream bs (from start bits) ≡ ok codes (from pos bits)
unfolding read_from onto
read-end {bs} {codes} {pending} {bits} {start} {pos} {i} g h l =
    sym g.eq ∙ rw (drop_of_length-le bs h, take_all i codes l, append-nil)
