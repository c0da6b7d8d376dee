-- The stream, written bin by bin: what is done and the fields from bin i on are the whole.
use mathlib.Core.Path.{◌≡◌, refl, sym, ap, ◌∙◌}
use mathlib.Core.Bool.{Bool}
use mathlib.Core.List.{List, [], ◌++◌, append_assoc, append-nil}
use Prim.Native.Nat.{ℕ, zero, suc, ◌+◌, ◌-◌, ◌≤◌, ◌<◌}
use native.Mathlib.Nat.{not-suc-le-zero}
use native.Mathlib.Numerals.{add-one}
use native.Mathlib.Omega.{arith}
use lib.ListN.{length, drop, get_or, set, replicate, length-append, drop_of_length-le}
use lib.Seq.{drop-cons}
use Rattle.bits.specs.Field.{field}
use Rattle.bits.specs.FieldLaws.{length-field}
use Rattle.bits.specs.Write.{Put, Ready}
use Rattle.bits.specs.WriteLaws.{and_then, and_none, ready-next}
use Rattle.bits.specs.declared.write.Writer.{Writer}
use Rattle.mantissas.proofs.Arrays.{at_set, at-zeros, less_one, set-as-is, zero-width, zero-size}
use Rattle.mantissas.specs.Inner.{group_at}
use Rattle.mantissas.specs.ReadBack.{of_bap-same}
use Rattle.mantissas.specs.StateLaws.{at}
use Rattle.mantissas.specs.Stream.{of_bap, field_at, left, fields, stream}
use Rattle.mantissas.specs.Ranges.{size, width}

pub record Writing (bs cs o : List ℕ) (w : Writer) (o' : List ℕ) (w' : Writer) (st : List ℕ) (i : ℕ) : Type 0 where
  pub done : List Bool
  pub put : Put o w done o' w'
  pub whole : done ++ fields (at st) (drop i bs) (drop i cs) ≡ stream bs cs

pub write-start : {bs cs o : List ℕ} {w : Writer} → w.count < 8 → w.acc < 256 → Writing bs cs o w o w (replicate 16 0) 0
unfolding stream
write-start {bs} {cs} {o} {w} f s = record { done = []; put = and_none o w f s; whole = rw (at-zeros 16) }

step : (bs cs st : List ℕ) (i b l : ℕ) → i < length bs → i < length cs → b ≡ get_or bs i 0 → b < length st → get_or st b 0 ≡ l
    → fields (at st) (drop i bs) (drop i cs)
    ≡ field_at b l (of_bap b (drop i bs) (drop i cs)) ++ fields (at (set st b (left b l))) (drop (i + 1) bs) (drop (i + 1) cs)
unfolding fields
step bs cs st i b l h hc eb k e =
    let f : at st b ≡ l = unfold at in e in
    rw (add-one, drop-cons bs i 0 h, drop-cons cs i 0 hc, ← eb, of_bap-same, f, at_set st b (left b l) k)

module _ {bs cs o o' st : List ℕ} {w w' : Writer} {i b n v : ℕ} (g : Writing bs cs o w o' w' st i) (h : i < length bs) (hc : i < length cs)
    (eb : b ≡ get_or bs i 0) (k : b < length st) (e : get_or st b 0 ≡ 0) (ev : v ≡ group_at i bs cs) (en : n ≡ width b) where
  next : (g.done ++ field n v) ++ fields (at (set st b (size b - 1))) (drop (i + 1) bs) (drop (i + 1) cs) ≡ stream bs cs
  unfolding field_at left group_at
  next =
      append_assoc g.done (field n v) _ ∙ rw (en, ev, ← eb) (rw (step bs cs st i b 0 h hc eb k e) at g.whole)

  -- room for the field that begins
  pub write-ready : {room : ℕ} → Ready w room (length (stream bs cs)) → Ready w' room n
  write-ready {room} r =
      let rest = fields (at (set st b (size b - 1))) (drop (i + 1) bs) (drop (i + 1) cs) in
      let a = length-append (g.done ++ field n v) rest in
      let d = length-append g.done (field n v) in
      ready-next room n g.put (omega (arith, ap length next, a, d, length-field n v, r.room))

  -- a field begins
  pub write_new : {o'' : List ℕ} {w'' : Writer} {x : ℕ} → x ≡ size b → Put o' w' (field n v) o'' w'' → Writing bs cs o w o'' w'' (set st b (x - 1)) (i + 1)
  write_new {o''} {w''} {x} ex p = record { done = g.done ++ field n v; put = and_then g.put p; whole = rw ex next }

-- bap 0 has no bits, and nothing of it is to come
pub write-none : {bs cs o o' st : List ℕ} {w w' : Writer} {i b : ℕ} → Writing bs cs o w o' w' st i → i < length bs → i < length cs
    → b ≡ get_or bs i 0 → b < length st → get_or st b 0 ≡ 0 → b ≡ 0 → Writing bs cs o w o' w' st (i + 1)
unfolding field_at left field
write-none {bs} {cs} {o} {o'} {st} {w} {w'} {i} {b} g h hc eb k e z =
    let q = rw (z, zero-width, zero-size, set-as-is st 0 0 (rw z at e)) at (step bs cs st i b 0 h hc eb k e) in
    record { done = g.done; put = g.put; whole = rw q at g.whole }

no_field : (b n : ℕ) (l : List ℕ) → 1 ≤ n → field_at b n l ≡ []
unfolding field_at
no_field b zero l h = absurd (not-suc-le-zero h)
no_field b (suc n) l h = refl

-- the code is in an earlier field
pub write-old : {bs cs o o' st : List ℕ} {w w' : Writer} {i b l : ℕ} → Writing bs cs o w o' w' st i → i < length bs → i < length cs
    → b ≡ get_or bs i 0 → b < length st → l ≡ get_or st b 0 → 1 ≤ l → Writing bs cs o w o' w' (set st b (l - 1)) (i + 1)
write-old {bs} {cs} {o} {o'} {st} {w} {w'} {i} {b} {l} g h hc eb k el hl =
    let z = step bs cs st i b l h hc eb k (sym el) in
    record { done = g.done; put = g.put; whole = rw (z, no_field b l _ hl, less_one b l hl) at g.whole }

pub write-end : {bs cs o o' st : List ℕ} {w w' : Writer} {i : ℕ} → Writing bs cs o w o' w' st i → length bs ≤ i → Put o w (stream bs cs) o' w'
unfolding fields
write-end {bs} {cs} {o} {o'} {st} {w} {w'} {i} g h =
    let e : g.done ≡ stream bs cs = rw (drop_of_length-le bs h, append-nil) at g.whole in
    rw (← e) g.put
