-- The held forms are A/52's: the curve, a delta, the sum over all segments.
use Prim.Native.Nat.{ℕ, zero, suc, ◌+◌, ◌-◌, ◌*◌, ◌/◌, max, ◌≤◌, ◌<◌}
use Rattle.std.specs.Prelude.{Bool, ◌&&◌, List, [], ◌∷◌, All, ◌≡◌, leb, ltb, ℤ, ◌+ℤ◌, ◌-ℤ◌}
use Rattle.std.proofs.Math.Bool.{true, false, cond}
use Rattle.std.proofs.Math.Path.{refl, ap}
use Rattle.std.proofs.Common.{sym, ◌∙◌}
use native.Mathlib.Omega.{arith}
use Rattle.std.proofs.Math.IntN.{pos, +ℤ_idl, +ℤ_idr}
use borrow.Author.Tests.{ltb-true, ltb-false, le-ltb, lt-leb, le-leb}
use Rattle.elements.specs.declared.segment.Segment.{Segment}
use Rattle.tables.specs.Entry.{entry, row}
use Rattle.tables.specs.Masking.{hth}
use Rattle.tables.proofs.Rules.{hth-least}
use Rattle.excitation.specs.Signed.{int_max, hold}
use Rattle.excitation.specs.SignedLaws.{max-lift, pos-sub}
use Rattle.masking.specs.Threshold.{raised, masking_curve}
use Rattle.masking.specs.Delta.{delta, segment_delta, deltas_from, deltas}
use Rattle.masking.specs.Held.{held_curve, held_delta, held_from, held_deltas}

-- ---- the curve

-- the knee adds less than the least threshold, so what was held is below the threshold anyway
pub curve-held : (excite : ℤ) (bndpsd dbknee fscod band : ℕ) → dbknee ≤ 3008 → fscod < 3 → band < 50
    → masking_curve excite bndpsd dbknee fscod band ≡ pos (held_curve (hold excite) bndpsd dbknee (entry (row hth fscod) band))
unfolding masking_curve raised held_curve
curve-held excite bndpsd dbknee fscod band k f b = go (ltb bndpsd dbknee) refl
  where
    h : ℕ
    h = entry (row hth fscod) band

    go : (t : Bool) → ltb bndpsd dbknee ≡ t
        → int_max (cond t (excite +ℤ pos ((dbknee - bndpsd) / 4)) excite) (pos h) ≡ pos (max (hold excite + (dbknee - bndpsd) / 4) h)
    go true e = max-lift excite ((dbknee - bndpsd) / 4) h (omega (arith, hth-least fscod band f b))
    go false e =
        let z : (dbknee - bndpsd) / 4 ≡ 0 = omega (arith, ltb-false bndpsd dbknee e) in
        rw z (ap (λ (x : ℤ). int_max x (pos h)) (sym (+ℤ_idr excite)) ∙ max-lift excite 0 h (omega arith))

pub curve-least : (excite bndpsd dbknee threshold : ℕ) → threshold ≤ held_curve excite bndpsd dbknee threshold
unfolding held_curve
curve-least excite bndpsd dbknee threshold = omega arith

-- ---- one delta

pub delta-held : (m ba : ℕ) → 512 ≤ m → pos m +ℤ delta ba ≡ pos (m + held_delta ba - 512)
unfolding delta held_delta
delta-held m zero h = pos-sub m 512 h ∙ ap pos (omega arith)
delta-held m (suc zero) h = pos-sub m 384 (omega arith) ∙ ap pos (omega arith)
delta-held m (suc (suc zero)) h = pos-sub m 256 (omega arith) ∙ ap pos (omega arith)
delta-held m (suc (suc (suc zero))) h = pos-sub m 128 (omega arith) ∙ ap pos (omega arith)
delta-held m (suc (suc (suc (suc n)))) h =
    let e : pos (suc (suc (suc (suc n)))) -ℤ pos 3 ≡ pos (suc n) = pos-sub (suc (suc (suc (suc n)))) 3 (omega arith) ∙ ap pos (omega arith) in
    rw (le-leb 4 (suc (suc (suc (suc n)))) (omega arith), le-ltb (suc (suc (suc (suc n)))) 4 (omega arith), e) (ap pos (omega arith))

-- ---- all segments

-- segments past the band add nothing
passed : (segments : List Segment) (at band : ℕ) → band < at → deltas_from segments at band ≡ pos 0
unfolding deltas_from segment_delta
passed [] at band h = refl
passed (s ∷ rest) at band h = rw (lt-leb (at + s.offst) band (omega arith), passed rest (at + s.offst + s.len) band (omega arith))

-- the sum over every segment is the delta of the one that covers the band
sum-held : (m : ℕ) → 512 ≤ m → (segments : List Segment) (at band : ℕ) → pos m +ℤ deltas_from segments at band ≡ pos (m + held_from segments at band - 512)
unfolding deltas_from segment_delta held_from
sum-held m h [] at band = ap pos (omega arith)
sum-held m h (s ∷ rest) at band =
    go (sum-held m h rest stop band) (ltb band start) refl (ltb band stop) refl
  where
    start : ℕ
    start = at + s.offst

    stop : ℕ
    stop = at + s.offst + s.len

    go : pos m +ℤ deltas_from rest stop band ≡ pos (m + held_from rest stop band - 512)
        → (t : Bool) → ltb band start ≡ t → (u : Bool) → ltb band stop ≡ u
        → pos m +ℤ (cond (leb start band && u) (delta s.ba) (pos 0) +ℤ deltas_from rest stop band)
        ≡ pos (m + cond t 512 (cond u (held_delta s.ba) (held_from rest stop band)) - 512)
    go r true p u q =
        let l = ltb-true band start p in
        rw (lt-leb start band l, passed rest stop band (omega arith)) (ap pos (omega arith))
    go r false p true q =
        rw (le-leb start band (ltb-false band start p), passed rest stop band (ltb-true band stop q), +ℤ_idr (delta s.ba)) (delta-held m s.ba h)
    go r false p false q = rw (le-leb start band (ltb-false band start p), +ℤ_idl (deltas_from rest stop band)) r

-- the mask with all that the segments add
pub deltas-held : (m : ℕ) → 512 ≤ m → (segments : List Segment) (band : ℕ) → pos m +ℤ deltas segments band ≡ pos (m + held_deltas segments band - 512)
unfolding deltas held_deltas
deltas-held m h segments band = sum-held m h segments 0 band

-- a code's delta, 512 up, is at most 1024, and so is what the segments add to a band
delta-most : (b : ℕ) → b ≤ 7 → held_delta b ≤ 1024
unfolding held_delta
delta-most b h = go (ltb b 4)
  where
    go : (t : Bool) → cond t (128 * b) (128 * b + 128) ≤ 1024
    go true = omega arith
    go false = omega arith

from-most : (segments : List Segment) (at band : ℕ) → All (λ s. s.ba ≤ 7) segments → held_from segments at band ≤ 1024
unfolding held_from
from-most [] at band h = omega arith
from-most (s ∷ rest) at band h =
    go (from-most rest stop band (λ k d l. h (suc k) d (omega arith))) (ltb band (at + s.offst)) (ltb band stop)
  where
    stop : ℕ
    stop = at + s.offst + s.len

    go : held_from rest stop band ≤ 1024 → (t u : Bool) → cond t 512 (cond u (held_delta s.ba) (held_from rest stop band)) ≤ 1024
    go r true u = omega arith
    go r false true = delta-most s.ba (h zero s (omega arith))
    go r false false = r

pub deltas-most : (segments : List Segment) (band : ℕ) → All (λ s. s.ba ≤ 7) segments → held_deltas segments band ≤ 1024
unfolding held_deltas
deltas-most segments band h = from-most segments 0 band h
