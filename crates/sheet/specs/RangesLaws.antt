-- Laws of the ranges: what the tests show, in the form of specs/Legal, of the common part, of an end, and of a whole record.
use Rattle.std.specs.Prelude.{ℕ, ◌-◌, ◌%◌, ◌≤◌, ◌<◌, ◌≡◌, List, Bool, true, false, not, ◌&&◌, ◌||◌, length, get_or, ltb, leb, eqb}
use Rattle.std.proofs.Common.{sym, ◌∙◌, true≢false, ⊎_elim, arith, leb-true, eqb-true, eq-eqb, ne_eqb}
use Rattle.std.proofs.Math.Bool.{or-false, or-true}
use Rattle.std.proofs.Math.Decide.{dec_lt}
use Rattle.std.proofs.Math.ListN.{get_or-eq_default}
use Rattle.bits.specs.Tests.{both, either}
use Rattle.elements.specs.declared.segment.Segment.{Segment}
use Rattle.sheet.specs.declared.common_part.Common.{Common}
use Rattle.sheet.specs.Grammar.{nseg_of, record_size}
use Rattle.sheet.specs.Common.{channels_of, common_in_range}
use Rattle.sheet.specs.Record.{channel_of, end_of, strategy_of, fsnroffst_of, fgaincod_of, offst_at, len_at, ba_at, segment_value, no_segment, segment_at, eight_segments, channel_record}
use Rattle.sheet.specs.Ranges.{all_below, lfe_end, full_end, legal_end, end_in_range, strategy_in_range, strategies_in_range, segment_in_range, nseg_in_range, is_lfe, record_in_range}
use Rattle.sheet.specs.Legal.{LegalCommon, EndBounds, LegalEnd, LegalStrategies, LegalSegment, LegalRecord}
use Rattle.sheet.specs.Tests.{all-seven, all-below}
use Rattle.sheet.specs.RecordLaws.{of-eight}

pub legal-common : (common : Common) → common_in_range common ≡ true → LegalCommon common
legal-common common h =
    let fscod = leb common.fscod 2 in
    let least = leb 1 common.nfchans in
    let most = leb common.nfchans 5 in
    let lfe = leb common.lfe 1 in
    let t =
    all-seven (fscod && least && most && lfe) (leb common.sdcycod 3) (leb common.fdcycod 3) (leb common.sgaincod 3) (leb common.dbpbcod 3)
    (leb common.floorcod 7) (leb common.csnroffst 63) h
    in
    let upToLfe = both (fscod && least && most) lfe t.0 in
    let upToMost = both (fscod && least) most upToLfe.0 in
    let upToLeast = both fscod least upToMost.0 in
    let one : 1 ≤ common.nfchans = leb-true _ _ upToLeast.1 in
    let five : common.nfchans ≤ 5 = leb-true _ _ upToMost.1 in
    let last : common.lfe ≤ 1 = leb-true _ _ upToLfe.1 in
    record {
      fscod = leb-true _ _ upToLeast.0;
      nfchans-least = one;
      nfchans-most = five;
      lfe = last;
      sdcycod = leb-true _ _ t.1;
      fdcycod = leb-true _ _ t.2;
      sgaincod = leb-true _ _ t.3;
      dbpbcod = leb-true _ _ t.4;
      floorcod = leb-true _ _ t.5;
      csnroffst = leb-true _ _ t.6;
      channels-least = omega arith;
      channels-most = omega arith;
    }

-- the end of the LFE, and those of the other channels
lfe-end : (end : ℕ) → lfe_end end ≡ true → EndBounds end
lfe-end end h =
    let e : end ≡ 7 = eqb-true end 7 h in
    record { least = omega arith; most = omega arith; thirds = rw e }

full-end : (end : ℕ) → full_end end ≡ true → (37 ≤ end) × EndBounds end
full-end end h =
    let thirds = both (leb 37 end && leb end 253) (eqb ((end - 1) % 3) 0) h in
    let sides = both (leb 37 end) (leb end 253) thirds.0 in
    let least : 37 ≤ end = leb-true 37 end sides.0 in
    (least, record { least = omega arith; most = leb-true end 253 sides.1; thirds = eqb-true ((end - 1) % 3) 0 thirds.1 })

-- an end that a sheet may hold
pub end-bounds : (end : ℕ) → legal_end end ≡ true → EndBounds end
end-bounds end h = ⊎_elim (lfe-end end) (λ k. (full-end end k).1) (either (lfe_end end) (full_end end) h)

end-of-kind : (lfe : Bool) (end : ℕ) → end_in_range lfe end ≡ true
    → (legal_end end ≡ true) × EndBounds end × (lfe ≡ true → end ≡ 7) × (lfe ≡ false → 37 ≤ end)
end-of-kind true end h =
    let k : lfe_end end ≡ true = sym (or-false (lfe_end end)) ∙ h in
    (rw k, lfe-end end k, λ _. eqb-true end 7 k, λ e. absurd (true≢false e))
end-of-kind false end h = (rw h (or-true (lfe_end end)), (full-end end h).1, λ e. absurd (true≢false (sym e)), λ _. (full-end end h).0)

pub record-tests : (common : Common) (r : List ℕ) → record_in_range common r ≡ true
    → (ltb (channel_of r) (channels_of common) ≡ true) × (end_in_range (is_lfe common r) (end_of r) ≡ true) × (strategies_in_range (is_lfe common r) r ≡ true)
    × (leb (fsnroffst_of r) 15 ≡ true) × (leb (fgaincod_of r) 7 ≡ true) × (nseg_in_range (is_lfe common r) (nseg_of r) ≡ true)
    × (all_below (nseg_of r) (segment_in_range r) ≡ true)
record-tests common r h =
    all-seven (ltb (channel_of r) (channels_of common)) (end_in_range (is_lfe common r) (end_of r)) (strategies_in_range (is_lfe common r) r) (leb (fsnroffst_of r) 15)
    (leb (fgaincod_of r) 7) (nseg_in_range (is_lfe common r) (nseg_of r)) (all_below (nseg_of r) (segment_in_range r)) h

-- a whole record in its ranges
module _ (common : Common) (c : ℕ) (r : List ℕ) (whole : length r ≡ record_size r) (held : record_in_range common r ≡ true) (own : channel_of r ≡ c) where
  is-lfe : c ≡ common.nfchans → is_lfe common r ≡ true
  is-lfe e = eq-eqb (channel_of r) common.nfchans (own ∙ e)

  is-full : c < common.nfchans → is_lfe common r ≡ false
  is-full b = ne_eqb (channel_of r) common.nfchans (λ e. omega arith)

  pub legal-end-of : LegalEnd common c (end_of r)
  legal-end-of =
      let e = end-of-kind (is_lfe common r) (end_of r) (record-tests common r held).1 in
      record { legal = e.0; bounds = e.1; full = λ b. e.3 (is-full b); lfe = λ k. e.2 (is-lfe k) }

  strategy-tests : (all_below 6 (λ block. strategy_in_range (is_lfe common r) (strategy_of r block)) ≡ true) × (leb 1 (strategy_of r 0) ≡ true)
  strategy-tests = both (all_below 6 (λ block. strategy_in_range (is_lfe common r) (strategy_of r block))) (leb 1 (strategy_of r 0)) (record-tests common r held).2

  strategy-test : (block : ℕ) → block < 6 → strategy_in_range (is_lfe common r) (strategy_of r block) ≡ true
  strategy-test = all-below 6 (λ block. strategy_in_range (is_lfe common r) (strategy_of r block)) strategy-tests.0

  strategy-most : (block : ℕ) → block < 6 → strategy_of r block ≤ 3
  strategy-most block b = leb-true _ _ (both (leb (strategy_of r block) 3) (not (is_lfe common r) || leb (strategy_of r block) 1) (strategy-test block b)).0

  strategy-lfe : c ≡ common.nfchans → (block : ℕ) → block < 6 → strategy_of r block ≤ 1
  strategy-lfe k block b =
      leb-true _ _ (rw (is-lfe k) at (both (leb (strategy_of r block) 3) (not (is_lfe common r) || leb (strategy_of r block) 1) (strategy-test block b)).1)

  pub legal-strategies : LegalStrategies common c (strategy_of r)
  legal-strategies = record { most = strategy-most; first = leb-true 1 (strategy_of r 0) strategy-tests.1; lfe = strategy-lfe }

  nseg-tests : (leb (nseg_of r) 8 ≡ true) × ((not (is_lfe common r) || eqb (nseg_of r) 0) ≡ true)
  nseg-tests = both (leb (nseg_of r) 8) (not (is_lfe common r) || eqb (nseg_of r) 0) (record-tests common r held).5

  segment-test : (i : ℕ) → i < nseg_of r
      → (segment_value r offst_at i ≤ 31) × (segment_value r len_at i ≤ 15) × (segment_value r ba_at i ≤ 7)
  segment-test i b =
      let offst = leb (segment_value r offst_at i) 31 in
      let len = leb (segment_value r len_at i) 15 in
      let upToBa = both (offst && len) (leb (segment_value r ba_at i) 7) (all-below (nseg_of r) (segment_in_range r) (record-tests common r held).6 i b) in
      let upToLen = both offst len upToBa.0 in
      (leb-true _ _ upToLen.0, leb-true _ _ upToLen.1, leb-true _ _ upToBa.1)

  -- the values of segments that are not there are 0
  segment-past : (first i : ℕ) → 11 ≤ first → nseg_of r ≤ i → segment_value r first i ≡ 0
  segment-past first i f b = get_or-eq_default r 0 (omega arith)

  legal-segment : (i : ℕ) → LegalSegment (segment_at r i)
  legal-segment i = by_cases (dec_lt i (nseg_of r))
    where
      by_cases : Dec (i < nseg_of r) → LegalSegment (segment_at r i)
      by_cases (yes b) = record { offst = (segment-test i b).0; len = (segment-test i b).1; ba = (segment-test i b).2 }
      by_cases (no b) =
          let past : nseg_of r ≤ i = omega (arith, b) in
          record {
            offst = omega (arith, segment-past offst_at i (omega arith) past);
            len = omega (arith, segment-past len_at i (omega arith) past);
            ba = omega (arith, segment-past ba_at i (omega arith) past);
          }

  legal-segments : (i : ℕ) → LegalSegment (get_or (eight_segments r) i no_segment)
  legal-segments =
      of-eight (λ (segment : Segment). LegalSegment segment) (segment_at r) no_segment
      (record { offst = omega arith; len = omega arith; ba = omega arith }) (λ i b. legal-segment i)

  pub legal-record : LegalRecord common c (channel_record r)
  legal-record =
      record {
        channel = own;
        end = legal-end-of;
        fsnroffst = leb-true _ _ (record-tests common r held).3;
        fgaincod = leb-true _ _ (record-tests common r held).4;
        nseg = leb-true _ _ nseg-tests.0;
        lfe-nseg = λ k. eqb-true _ _ (rw (is-lfe k) at nseg-tests.1);
        segments = legal-segments;
      }
