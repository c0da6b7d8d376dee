-- What is written is read back, whatever bits follow, and so a stream is that of one list of codes only.
use Rattle.std.specs.Prelude.{◌≡◌, refl, Bool, ℕ, zero, suc, ◌-◌, ◌^◌, ◌≤◌, ◌<◌, eqb}
use mathlib.Core.List.{List, [], ◌∷◌, ◌++◌, append_assoc, head_d}
use Rattle.std.proofs.Common.{lt_of_lt_of_le, not-suc-le-zero, arith, eqb-true, eq-eqb, ne_eqb, lt-ltb}
use Rattle.std.proofs.lemmas.Bool.{eqb-false}
use Rattle.bits.specs.Reading.{ok}
use Rattle.bits.specs.ReadingLaws.{reads-bits, reads_same, Reads}
use Rattle.bits.specs.Tests.{by_bool}
use Rattle.mantissas.specs.Digits.{digits, padded}
use Rattle.mantissas.specs.Inner.{Below, nil, cons, Coded, empty, bin}
use Rattle.mantissas.specs.DigitsLaws.{length-padded, padded-below, pack-lt, digits-pack}
use Rattle.mantissas.specs.Ranges.{size, levels, width}
use Rattle.mantissas.specs.RangesLaws.{Row, row}
use Rattle.mantissas.specs.State.{update}
use Rattle.mantissas.specs.Stream.{of_bap, group_code, field_at, left, fields, stream, judged, read_group, members, read_from, read_stream}

-- ---- the codes of one bap

pub of_bap-same : (b c : ℕ) (bs cs : List ℕ) → of_bap b (b ∷ bs) (c ∷ cs) ≡ c ∷ of_bap b bs cs
unfolding of_bap
of_bap-same b c bs cs = rw (eq-eqb b b refl)

pub of_bap-other : (k b c : ℕ) (bs cs : List ℕ) → (k ≡ b → ⊥) → of_bap k (b ∷ bs) (c ∷ cs) ≡ of_bap k bs cs
unfolding of_bap
of_bap-other k b c bs cs h = rw (ne_eqb k b h)

pub of_bap-below : {bs cs : List ℕ} (k : ℕ) → Coded bs cs → Below (levels k) (of_bap k bs cs)
unfolding of_bap
of_bap-below k empty = nil
of_bap-below k (bin {b} {c} {bs} {cs} hb hc h) =
    by_bool (eqb k b)
    (λ e. let hk : c < levels k = rw (eqb-true k b e) hc in rw e (cons hk (of_bap-below k h)))
    (λ e. rw e (of_bap-below k h))

-- ---- a group

module _ (b : ℕ) (l : List ℕ) (r : Row b) (h : Below (levels b) l) where
  group-below : Below (levels b) (padded (size b) l)
  group-below = padded-below (size b) r.levels-least h

  pub group-lt : group_code b l < levels b ^ size b
  unfolding group_code
  group-lt = rw (length-padded (size b) l) at (pack-lt group-below)

  pub group-digits : digits (levels b) (size b) (group_code b l) ≡ padded (size b) l
  unfolding group_code
  group-digits = rw (length-padded (size b) l) at (digits-pack group-below)

padded-cons : (n c : ℕ) (l : List ℕ) → 1 ≤ n → padded n (c ∷ l) ≡ c ∷ padded (n - 1) l
unfolding padded
padded-cons zero c l h = absurd (not-suc-le-zero h)
padded-cons (suc n) c l h = let e : suc n - 1 ≡ n = omega arith in rw e

-- what the reader has at hand at a bin
members-back : (b c n : ℕ) (l : List ℕ) (rest : List Bool) → b < 16 → Below (levels b) (c ∷ l)
    → members b (padded n (c ∷ l)) (field_at b n (c ∷ l) ++ rest) ≡ ok (c ∷ padded (left b n) l) rest
unfolding members field_at left padded read_group judged
members-back b c zero l rest hb h =
    let r = row b hb in
    let v = group-lt b (c ∷ l) r h in
    rw (
      (reads-bits (width b) (group_code b (c ∷ l)) (lt_of_lt_of_le v r.fits)).back rest,
      lt-ltb (group_code b (c ∷ l)) (levels b ^ size b) v,
      group-digits b (c ∷ l) r h,
      padded-cons (size b) c l r.size-least,
    )
members-back b c (suc n) l rest hb h = refl

-- ---- the writer's state and the reader's: what was read and not handed out is what is still to come

abbrev Ahead : (ℕ → ℕ) → (ℕ → List ℕ) → List ℕ → List ℕ → Type 0
Ahead s p bs cs = (k : ℕ) → p k ≡ padded (s k) (of_bap k bs cs)

ahead_step : (s : ℕ → ℕ) (p : ℕ → List ℕ) (b c n : ℕ) (bs cs : List ℕ) → Ahead s p (b ∷ bs) (c ∷ cs)
    → Ahead (update s b n) (update p b (padded n (of_bap b bs cs))) bs cs
unfolding update
ahead_step s p b c n bs cs h k =
    by_bool (eqb k b)
    (λ e. rw (e, eqb-true k b e))
    (λ e. rw (e, h k, of_bap-other k b c bs cs (eqb-false k b e)))

from_back : {bs cs : List ℕ} → Coded bs cs → (s : ℕ → ℕ) (p : ℕ → List ℕ) → Ahead s p bs cs → (rest : List Bool)
    → read_from p bs (fields s bs cs ++ rest) ≡ ok cs rest
unfolding read_from fields head_d
from_back empty s p a rest = refl
from_back (bin {b} {c} {bs} {cs} hb hc h) s p a rest =
    let e : p b ≡ padded (s b) (c ∷ of_bap b bs cs) = rw (← of_bap-same b c bs cs) (a b) in
    let m = members-back b c (s b) (of_bap b bs cs) (fields (update s b (left b (s b))) bs cs ++ rest) hb (cons hc (of_bap-below b h)) in
    rw (append_assoc, e, m, from_back h (update s b (left b (s b))) _ (ahead_step s p b c (left b (s b)) bs cs a) rest)

-- the codes come back, and the bits after the stream are left: so the bits read are as many as were written
pub reads-stream : {bs cs : List ℕ} → Coded bs cs → Reads (read_stream bs) (stream bs cs) cs
unfolding read_stream stream padded
reads-stream h = record { back = λ rest. from_back h (λ k. 0) (λ k. []) (λ k. refl) rest }

-- unique reading: two streams of the same baps that begin alike, one of them perhaps longer, are of the same codes
pub stream-same : {bs xs ys : List ℕ} (u v : List Bool) → Coded bs xs → Coded bs ys → stream bs xs ++ u ≡ stream bs ys ++ v → xs ≡ ys
stream-same u v hx hy e = (reads_same u v (reads-stream hx) (reads-stream hy) e).0
