-- The mask as the code has it, not as A/52 7.2.2.5 and 7.2.2.6 write it: natural numbers, from an excitation that is held to 0, with a delta
-- that is 512 up, that of the one segment which covers the band. specs/HeldLaws.antt shows that the forms are A/52's.
use Rattle.std.specs.Prelude.{ℕ, ◌+◌, ◌-◌, ◌*◌, ◌/◌, max, cond, List, [], ◌∷◌, ltb}
use Rattle.elements.specs.declared.segment.Segment.{Segment}

-- the masking curve of a band; where bndpsd is not below dbknee, their difference is 0
unfoldable pub held_curve : ℕ → ℕ → ℕ → ℕ → ℕ
held_curve excite bndpsd dbknee threshold = max (excite + (dbknee - bndpsd) / 4) threshold

-- a code's delta, 512 up: the least, of ba 0, is -512
unfoldable pub held_delta : ℕ → ℕ
held_delta ba = cond (ltb ba 4) (128 * ba) (128 * ba + 128)

-- the delta of the one of the segments that covers the band, 512 up; the one before the first of them ended at band `at`
unfoldable pub held_from : List Segment → ℕ → ℕ → ℕ
held_from [] at band = 512
held_from (s ∷ rest) at band =
    cond (ltb band (at + s.offst)) 512
    (cond (ltb band (at + s.offst + s.len)) (held_delta s.ba)
    (held_from rest (at + s.offst + s.len) band))

-- what all segments add to the mask of the band, 512 up
unfoldable pub held_deltas : List Segment → ℕ → ℕ
held_deltas segments band = held_from segments 0 band
