-- Bins of bap 0 have no bits (A/52 7.3, Table 7.18), so they can be left out: a block's stream over whole parts, whose bins from end on
-- have bap 0, is that of the bins below each end (document 01, "The track sheet": "Entries from end on are ignored when read and written as 0").
use Rattle.std.specs.Prelude.{◌≡◌, refl, List, [], ◌∷◌, ◌++◌, ℕ, zero, suc, ◌<◌, length, replicate}
use Rattle.std.proofs.Common.{sym, append-nil, arith}
use Rattle.std.proofs.Math.Dec.{eqb-suc-zero}
use Rattle.bits.specs.Field.{field}
use Rattle.bits.specs.Parts.{joined}
use Rattle.mantissas.specs.State.{update}
use Rattle.mantissas.specs.Stream.{of_bap, field_at, left, fields, stream}
use Rattle.mantissas.specs.Inner.{Coded, empty, bin}
use Rattle.mantissas.specs.Ranges.{width}
use Rattle.tables.specs.Entry.{entry}
use Rattle.tables.specs.Quantizer.{quantization_bits}

-- ds and es are bs and cs without some of the bins of bap 0
pub data Without : List ℕ → List ℕ → List ℕ → List ℕ → Type 0 where
  done : Without [] [] [] []
  keep : {b c : ℕ} {bs cs ds es : List ℕ} → Without bs cs ds es → Without (b ∷ bs) (c ∷ cs) (b ∷ ds) (c ∷ es)
  skip : {c : ℕ} {bs cs ds es : List ℕ} → Without bs cs ds es → Without (0 ∷ bs) (c ∷ cs) ds es

of_bap-without : {bs cs ds es : List ℕ} (k : ℕ) → Without bs cs ds es → of_bap (suc k) bs cs ≡ of_bap (suc k) ds es
unfolding of_bap
of_bap-without k done = refl
of_bap-without k (keep h) = rw (of_bap-without k h)
of_bap-without k (skip h) = rw eqb-suc-zero (of_bap-without k h)

field_at-zero : (n : ℕ) (l : List ℕ) → field_at 0 n l ≡ []
unfolding field_at width quantization_bits entry field
field_at-zero zero l = refl
field_at-zero (suc n) l = refl

-- two states that agree but for bap 0
abbrev Agree : (ℕ → ℕ) → (ℕ → ℕ) → Type 0
Agree s t = (k : ℕ) → s (suc k) ≡ t (suc k)

agree-zero : (s t : ℕ → ℕ) (m : ℕ) → Agree s t → Agree (update s 0 m) t
unfolding update
agree-zero s t m h k = rw eqb-suc-zero (h k)

agree_same : (s t : ℕ → ℕ) (b n : ℕ) → Agree s t → Agree (update s b n) (update t b n)
unfolding update
agree_same s t b n h k = rw (h k)

-- the fields from any two such states
abbrev Same : List ℕ → List ℕ → List ℕ → List ℕ → Type 0
Same bs cs ds es = (s t : ℕ → ℕ) → Agree s t → fields s bs cs ≡ fields t ds es

keep_same : (b c : ℕ) {bs cs ds es : List ℕ} → Without bs cs ds es → Same bs cs ds es → Same (b ∷ bs) (c ∷ cs) (b ∷ ds) (c ∷ es)
unfolding fields
keep_same zero c {bs} {cs} {ds} {es} h f s t a =
    rw (field_at-zero (s 0) (c ∷ of_bap 0 bs cs), field_at-zero (t 0) (c ∷ of_bap 0 ds es))
    (f _ _ (agree-zero s (update t 0 (left 0 (t 0))) _ (λ k. sym (agree-zero t s _ (λ j. sym (a j)) k))))
keep_same (suc b) c {bs} {cs} {ds} {es} h f s t a =
    let n = left (suc b) (t (suc b)) in
    rw (a b, of_bap-without b h, f (update s (suc b) n) (update t (suc b) n) (agree_same s t (suc b) n a))

fields-without : {bs cs ds es : List ℕ} → Without bs cs ds es → Same bs cs ds es
unfolding fields
fields-without done s t a = refl
fields-without (keep {b} {c} h) s t a = keep_same b c h (fields-without h) s t a
fields-without (skip {c} {bs} {cs} h) s t a = rw (field_at-zero (s 0) (c ∷ of_bap 0 bs cs)) (fields-without h _ t (agree-zero s t _ a))

-- the bins of bap 0 that are left out make no difference
pub stream-without : {bs cs ds es : List ℕ} → Without bs cs ds es → stream bs cs ≡ stream ds es
unfolding stream
stream-without h = fields-without h (λ k. 0) (λ k. 0) (λ k. refl)

-- ---- which bins can be left out: none, all of bap 0 at an end, and so in each part

pub without-none : {bs cs : List ℕ} → Coded bs cs → Without bs cs bs cs
without-none empty = done
without-none (bin hb hc h) = keep (without-none h)

pub without-zeros : (cs : List ℕ) → Without (replicate (length cs) 0) cs [] []
without-zeros [] = done
without-zeros (c ∷ cs) = skip (without-zeros cs)

pub without-append : {bs cs ds es bs' cs' ds' es' : List ℕ} → Without bs cs ds es → Without bs' cs' ds' es' → Without (bs ++ bs') (cs ++ cs') (ds ++ ds') (es ++ es')
without-append done g = g
without-append (keep h) g = keep (without-append h g)
without-append (skip h) g = skip (without-append h g)

without-joined : (n : ℕ) (bs cs ds es : ℕ → List ℕ) → ((c : ℕ) → c < n → Without (bs c) (cs c) (ds c) (es c))
    → Without (joined n bs) (joined n cs) (joined n ds) (joined n es)
unfolding joined
without-joined zero bs cs ds es h = done
without-joined (suc n) bs cs ds es h = without-append (without-joined n bs cs ds es (λ c l. h c (omega arith))) (h n (omega arith))

-- n parts, each of the bins below its end and of bins of bap 0 from there on
pub stream-below-ends : (n : ℕ) (bs cs past : ℕ → List ℕ) → ((c : ℕ) → c < n → Coded (bs c) (cs c))
    → stream (joined n (λ c. bs c ++ replicate (length (past c)) 0)) (joined n (λ c. cs c ++ past c)) ≡ stream (joined n bs) (joined n cs)
stream-below-ends n bs cs past h =
    stream-without (without-joined n _ _ bs cs (λ c l.
    let w = without-append (without-none (h c l)) (without-zeros (past c)) in
    rw (append-nil (bs c), append-nil (cs c)) at w))
