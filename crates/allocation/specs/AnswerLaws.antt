-- Each answer's cause: what the tests say, the answer that each way through them gives, and that a refusal has no other cause.
use Rattle.std.specs.Prelude.{ℕ, ◌≤◌, ◌<◌, Bool, true, false, ◌&&◌, List, ◌≡◌, refl, leb, length, get_or, take, Result, Ok, Err}
use Rattle.std.specs.List.{list_all}
use Rattle.std.proofs.Common.{true≢false, sym, ◌∙◌, arith, leb-true, le-leb, length-take}
use Rattle.std.proofs.Math.Decide.{dec_lt}
use Rattle.std.proofs.Math.ListN.{get_or-eq_default}
use Rattle.std.proofs.lemmas.List.{get_or_default, get_or-take}
use Rattle.std.proofs.lemmas.List.Sums.{AllPass-from_list_all, list_all-from_AllPass}
use Rattle.bits.specs.Answer.{kept}
use Rattle.bits.specs.declared.refusal.Refusal.{Refusal}
use Rattle.bits.specs.declared.refusal.Refusal.TheVariants as refusal
use Rattle.bits.specs.Tests.{both}
use Rattle.elements.specs.declared.segment.Segment.{Segment}
use Rattle.sheet.specs.Legal.{LegalSegment}
use Rattle.sheet.specs.Ranges.{legal_end}
use Rattle.sheet.specs.Record.{segments_of}
use Rattle.sheet.specs.Tests.{all-seven}
use Rattle.sheet.specs.declared.common_part.Common.{Common}
use Rattle.sheet.specs.declared.record.ChannelCodes.{ChannelCodes}
use Rattle.allocation.specs.Allocation.{allocated, segment_in_range, common_codes, channel_codes, in_range, right_lengths, exponents_fit, answer_of, left_in}
use Rattle.allocation.specs.Legal.{LegalCodes, LegalBins}

-- ---- what the tests say

segment-held : (s : Segment) → segment_in_range s ≡ true → LegalSegment s
unfolding segment_in_range
segment-held s h =
    let ba = both (leb s.offst 31 && leb s.len 15) (leb s.ba 7) h in
    let len = both (leb s.offst 31) (leb s.len 15) ba.0 in
    record { offst = leb-true _ _ len.0; len = leb-true _ _ len.1; ba = leb-true _ _ ba.1 }

-- each test that holds says its part
pub codes-held : (common : Common) (channel : ChannelCodes) → common_codes common ≡ true → channel_codes channel ≡ true → LegalCodes common channel
unfolding common_codes channel_codes
codes-held common channel hc hr =
    let c =
    all-seven (leb common.fscod 2) (leb common.sdcycod 3) (leb common.fdcycod 3) (leb common.sgaincod 3) (leb common.dbpbcod 3)
    (leb common.floorcod 7) (leb common.csnroffst 63) hc
    in
    let segments = both (leb channel.nseg 8 && leb channel.fsnroffst 15 && leb channel.fgaincod 7) (list_all segment_in_range (segments_of channel)) hr in
    let gain = both (leb channel.nseg 8 && leb channel.fsnroffst 15) (leb channel.fgaincod 7) segments.0 in
    let first = both (leb channel.nseg 8) (leb channel.fsnroffst 15) gain.0 in
    record {
      fscod = leb-true _ _ c.0;
      sdcycod = leb-true _ _ c.1;
      fdcycod = leb-true _ _ c.2;
      sgaincod = leb-true _ _ c.3;
      dbpbcod = leb-true _ _ c.4;
      floorcod = leb-true _ _ c.5;
      csnroffst = leb-true _ _ c.6;
      fsnroffst = leb-true _ _ first.1;
      fgaincod = leb-true _ _ gain.1;
      nseg = leb-true _ _ first.0;
      segments = λ i d l. segment-held _ (AllPass-from_list_all segment_in_range (segments_of channel) segments.1 i d l);
    }

-- and the other way round
segment-tested : (s : Segment) → LegalSegment s → segment_in_range s ≡ true
unfolding segment_in_range
segment-tested s l = rw (le-leb _ _ l.offst, le-leb _ _ l.len, le-leb _ _ l.ba)

codes-tested : (common : Common) (channel : ChannelCodes) → LegalCodes common channel → (common_codes common ≡ true) × (channel_codes channel ≡ true)
unfolding common_codes channel_codes
codes-tested common channel l =
    let segments : list_all segment_in_range (segments_of channel) ≡ true = list_all-from_AllPass segment_in_range (segments_of channel) (λ i d h. segment-tested _ (l.segments i d h)) in (
      rw (le-leb _ _ l.fscod, le-leb _ _ l.sdcycod, le-leb _ _ l.fdcycod, le-leb _ _ l.sgaincod, le-leb _ _ l.dbpbcod, le-leb _ _ l.floorcod, le-leb _ _ l.csnroffst),
      rw (le-leb _ _ l.nseg, le-leb _ _ l.fsnroffst, le-leb _ _ l.fgaincod, segments),
    )

pub range-held : (common : Common) (channel : ChannelCodes) (end : ℕ) → in_range common channel end ≡ true → LegalCodes common channel × (legal_end end ≡ true)
unfolding in_range
range-held common channel end h =
    let a = both (common_codes common && channel_codes channel) (legal_end end) h in
    let c = both (common_codes common) (channel_codes channel) a.0 in
    (codes-held common channel c.0 c.1, a.1)

pub range-tested : (common : Common) (channel : ChannelCodes) (end : ℕ) → LegalCodes common channel → legal_end end ≡ true → in_range common channel end ≡ true
unfolding in_range
range-tested common channel end l e = let t = codes-tested common channel l in rw (t.0, t.1, e)

-- both slices hold end, and have at most 256 entries
pub record RightLengths (end entries size : ℕ) : Type 0 where
  pub held : end ≤ entries
  pub room : end ≤ size
  pub few : entries ≤ 256
  pub short : size ≤ 256

pub lengths-held : (end entries size : ℕ) → right_lengths end entries size ≡ true → RightLengths end entries size
unfolding right_lengths
lengths-held end entries size h =
    let c = both (leb entries 256 && leb size 256 && leb end entries) (leb end size) h in
    let b = both (leb entries 256 && leb size 256) (leb end entries) c.0 in
    let a = both (leb entries 256) (leb size 256) b.0 in
    record { held = leb-true _ _ b.1; room = leb-true _ _ c.1; few = leb-true _ _ a.0; short = leb-true _ _ a.1 }

lengths-tested : (end entries size : ℕ) → RightLengths end entries size → right_lengths end entries size ≡ true
unfolding right_lengths
lengths-tested end entries size r = rw (le-leb _ _ r.few, le-leb _ _ r.short, le-leb _ _ r.held, le-leb _ _ r.room)

-- an entry below end is one of those that are tested, or past them all
module _ (exp : List ℕ) (end bin : ℕ) (l : bin < end) where
  tested-there : bin < length exp → bin < length (take end exp)
  tested-there h = rw length-take (omega arith)

  tested-is : get_or (take end exp) bin 0 ≡ get_or exp bin 0
  tested-is = get_or-take end exp bin 0 l

pub exponents-held : (exp : List ℕ) (end : ℕ) → exponents_fit exp end ≡ true → (bin : ℕ) → bin < end → get_or exp bin 0 ≤ 24
unfolding exponents_fit
exponents-held exp end h bin l = go (dec_lt bin (length exp))
  where
    go : Dec (bin < length exp) → get_or exp bin 0 ≤ 24
    go (yes u) =
        rw (← tested-is exp end bin l) (leb-true _ _ (AllPass-from_list_all (λ (e : ℕ). leb e 24) (take end exp) h bin 0 (tested-there exp end bin l u)))
    go (no u) = rw (get_or-eq_default exp 0 {n = bin} (omega (arith, u))) (omega arith)

exponents-tested : (exp : List ℕ) (end : ℕ) → ((bin : ℕ) → bin < end → get_or exp bin 0 ≤ 24) → exponents_fit exp end ≡ true
unfolding exponents_fit
exponents-tested exp end h =
    list_all-from_AllPass (λ (e : ℕ). leb e 24) (take end exp) (λ i d l.
    let few = length-take end exp in
    rw (get_or_default (take end exp) i d 0 l, get_or-take end exp i 0 (omega (arith, few))) (le-leb _ _ (h i (omega (arith, few)))))

-- ---- each way through the tests

module _ (common : Common) (channel : ChannelCodes) (end : ℕ) (exp : List ℕ) (size : ℕ) where
  pub answer-range : in_range common channel end ≡ false → answer_of common channel end exp size ≡ Err refusal.OutOfRange
  unfolding answer_of
  answer-range a = rw a

  pub answer-length : in_range common channel end ≡ true → right_lengths end (length exp) size ≡ false → answer_of common channel end exp size ≡ Err refusal.WrongLength
  unfolding answer_of
  answer-length a b = rw (a, b)

  pub answer-exponent : in_range common channel end ≡ true → right_lengths end (length exp) size ≡ true → exponents_fit exp end ≡ false
      → answer_of common channel end exp size ≡ Err refusal.BadExponent
  unfolding answer_of
  answer-exponent a b d = rw (a, b, d)

  pub answer-accepted : in_range common channel end ≡ true → right_lengths end (length exp) size ≡ true → exponents_fit exp end ≡ true
      → answer_of common channel end exp size ≡ Ok tt
  unfolding answer_of
  answer-accepted a b d = rw (a, b, d)

  -- ---- corollaries

  -- legal input is never refused
  pub legal-accepted : LegalCodes common channel → LegalBins exp end size → length exp ≤ 256 → answer_of common channel end exp size ≡ Ok tt
  legal-accepted codes bins few =
      answer-accepted (range-tested common channel end codes bins.legal)
      (lengths-tested end (length exp) size (record { held = bins.held; room = bins.room; few = few; short = bins.short }))
      (exponents-tested exp end bins.most)

  -- the ways through, as one case distinction
  by_way : (P : Result Unit Refusal → Type 0)
      → (in_range common channel end ≡ false → P (Err refusal.OutOfRange))
      → (in_range common channel end ≡ true → right_lengths end (length exp) size ≡ false → P (Err refusal.WrongLength))
      → (in_range common channel end ≡ true → right_lengths end (length exp) size ≡ true → exponents_fit exp end ≡ false → P (Err refusal.BadExponent))
      → (in_range common channel end ≡ true → right_lengths end (length exp) size ≡ true → exponents_fit exp end ≡ true → P (Ok tt))
      → P (answer_of common channel end exp size)
  by_way P range lengths exponent all = go (in_range common channel end) refl (right_lengths end (length exp) size) refl (exponents_fit exp end) refl
    where
      go : (a : Bool) → in_range common channel end ≡ a → (b : Bool) → right_lengths end (length exp) size ≡ b → (d : Bool) → exponents_fit exp end ≡ d
          → P (answer_of common channel end exp size)
      go false ea b eb d ed = rw (answer-range ea) (range ea)
      go true ea false eb d ed = rw (answer-length ea eb) (lengths ea eb)
      go true ea true eb false ed = rw (answer-exponent ea eb ed) (exponent ea eb ed)
      go true ea true eb true ed = rw (answer-accepted ea eb ed) (all ea eb ed)

  pub accepted-codes : answer_of common channel end exp size ≡ Ok tt → LegalCodes common channel
  accepted-codes =
      by_way (λ (x : Result Unit Refusal). x ≡ Ok tt → LegalCodes common channel) (λ a q. cc) (λ a b q. cc)
      (λ a b d q. cc)
      (λ a b d q. (range-held common channel end a).0)

  pub accepted-bins : answer_of common channel end exp size ≡ Ok tt → LegalBins exp end size
  accepted-bins =
      by_way (λ (x : Result Unit Refusal). x ≡ Ok tt → LegalBins exp end size) (λ a q. cc) (λ a b q. cc)
      (λ a b d q. cc)
      (λ a b d q. let l = lengths-held end (length exp) size b in
      record { legal = (range-held common channel end a).1; held = l.held; most = exponents-held exp end d; room = l.room; short = l.short })

  -- a code or the end is out of range
  pub out-of-range-cause : answer_of common channel end exp size ≡ Err refusal.OutOfRange → LegalCodes common channel → legal_end end ≡ true → ⊥
  out-of-range-cause =
      by_way (λ (x : Result Unit Refusal). x ≡ Err refusal.OutOfRange → LegalCodes common channel → legal_end end ≡ true → ⊥)
      (λ a q codes legal. true≢false (sym (range-tested common channel end codes legal) ∙ a))
      (λ a b q codes legal. cc)
      (λ a b d q codes legal. cc)
      (λ a b d q codes legal. cc)

  -- a slice is too long, or does not reach to end
  pub wrong-length-cause : answer_of common channel end exp size ≡ Err refusal.WrongLength → RightLengths end (length exp) size → ⊥
  wrong-length-cause =
      by_way (λ (x : Result Unit Refusal). x ≡ Err refusal.WrongLength → RightLengths end (length exp) size → ⊥) (λ a q r. cc)
      (λ a b q r. true≢false (sym (lengths-tested end (length exp) size r) ∙ b))
      (λ a b d q r. cc)
      (λ a b d q r. cc)

  -- an exponent below end is above 24
  pub bad-exponent-cause : answer_of common channel end exp size ≡ Err refusal.BadExponent → ((bin : ℕ) → bin < end → get_or exp bin 0 ≤ 24) → ⊥
  bad-exponent-cause =
      by_way (λ (x : Result Unit Refusal). x ≡ Err refusal.BadExponent → ((bin : ℕ) → bin < end → get_or exp bin 0 ≤ 24) → ⊥) (λ a q m. cc) (λ a b q m. cc)
      (λ a b d q m. true≢false (sym (exponents-tested exp end m) ∙ d))
      (λ a b d q m. cc)

-- ---- what is left in the slice

module _ (common : Common) (channel : ChannelCodes) (end : ℕ) (exp bap : List ℕ) where
  pub accepted-allocates : answer_of common channel end exp (length bap) ≡ Ok tt
      → left_in common channel end exp bap ≡ allocated common channel end exp (length bap)
  unfolding left_in
  accepted-allocates h = rw h

  pub refused-leaves : (answer_of common channel end exp (length bap) ≡ Ok tt → ⊥) → left_in common channel end exp bap ≡ bap
  unfolding left_in
  refused-leaves h = go (answer_of common channel end exp (length bap)) refl
    where
      go : (a : Result Unit Refusal) → answer_of common channel end exp (length bap) ≡ a → kept a (allocated common channel end exp (length bap)) bap ≡ bap
      go (Ok u) e = absurd (h e)
      go (Err k) e = refl
