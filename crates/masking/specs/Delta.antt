-- A/52 7.2.2.6: what the delta segments add to the mask of a band.
-- The segments start at band 0; each lies offst bands behind the end of the one before it, is len bands long and adds delta to each. A segment's
-- offst, len and ba are the standard's deltoffst, deltlen and deltba. A band past 49 has a delta too, but no bin asks for it.
use Rattle.std.specs.Prelude.{ℕ, ◌+◌, cond, ◌&&◌, List, [], ◌∷◌, leb, ltb, ℤ, pos, ◌+ℤ◌, ◌-ℤ◌, ◌*ℤ◌}
use Rattle.elements.specs.declared.segment.Segment.{Segment}

-- delta = (ba - 3) << 7 where ba >= 4, else (ba - 4) << 7
unfoldable pub delta : ℕ → ℤ
delta ba = cond (leb 4 ba) ((pos ba -ℤ pos 3) *ℤ pos 128) ((pos ba -ℤ pos 4) *ℤ pos 128)

-- what a segment of len bands from `first` on adds to mask[band]: nothing outside these bands
unfoldable pub segment_delta : ℕ → ℕ → ℕ → ℕ → ℤ
segment_delta first len ba band = cond (leb first band && ltb band (first + len)) (delta ba) (pos 0)

-- what segments add to mask[band], where the one before the first of them ended before band `at`
unfoldable pub deltas_from : List Segment → ℕ → ℕ → ℤ
deltas_from [] at band = pos 0
deltas_from (s ∷ rest) at band = segment_delta (at + s.offst) s.len s.ba band +ℤ deltas_from rest (at + s.offst + s.len) band

-- what all segments add to it
unfoldable pub deltas : List Segment → ℕ → ℤ
deltas segments band = deltas_from segments 0 band
