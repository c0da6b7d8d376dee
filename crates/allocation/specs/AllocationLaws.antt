-- Laws of the allocation: its length, its range, what it depends on; and that the codes of an accepted sheet are legal.
use Prim.Native.Nat.{ℕ, ◌≤◌, ◌<◌}
use Rattle.std.specs.Prelude.{Bool, true, false, ◌&&◌, List, ◌≡◌, refl, leb, get_or}
use Rattle.std.proofs.Math.Bool.{cond}
use Rattle.std.proofs.Math.Decide.{dec_lt}
use Rattle.std.proofs.Common.{arith}
use Rattle.std.proofs.Math.Dec.{ltb}
use Rattle.std.proofs.Math.ListN.{length, get_or-eq_default}
use borrow.Author.Tests.{le-leb, le-ltb}
use Rattle.bits.specs.Parts.{tab}
use Rattle.bits.specs.PartsLaws.{length-tab, get_or-tab, tab-cong}
use Rattle.tables.specs.Bands.{masktab}
use Rattle.tables.specs.Entry.{entry}
use Rattle.tables.specs.Quantizer.{baptab}
use Rattle.tables.proofs.Rules.{baptab-most}
use Rattle.elements.specs.declared.segment.Segment.{Segment}
use Rattle.std.proofs.Common.{subst, sym, ◌∙◌, length-take}
use Rattle.std.proofs.lemmas.List.{get_or_default, get_or-take}
use Rattle.sheet.specs.Record.{no_segment, segments_of}
use Rattle.sheet.specs.Legal.{LegalCommon, LegalRecord, LegalSegment}
use Rattle.sheet.specs.Ranges.{lfe_end}
use Rattle.sheet.specs.declared.common_part.Common.{Common}
use Rattle.sheet.specs.declared.record.ChannelCodes.{ChannelCodes}
use Rattle.sheet.specs.declared.record.ChannelRecord.{ChannelRecord}
use Rattle.excitation.specs.Psd.{psd}
use Rattle.excitation.specs.BandPsd.{bndpsd}
use Rattle.excitation.specs.BandPsdLaws.{bndpsd-same}
use Rattle.excitation.specs.HeldLaws.{excite-same}
use Rattle.allocation.specs.Initialization.{leak_of, floor_of, snroffset_of}
use Rattle.allocation.specs.Bap.{lowered, address, bap_of}
use Rattle.allocation.specs.Allocation.{mask_of, allocated}
use Rattle.allocation.specs.Legal.{LegalCodes}

-- ---- the allocation

module _ (common : Common) (channel : ChannelCodes) (end : ℕ) (exp : List ℕ) where
  abbrev bin-of : ℕ → ℕ
  bin-of = bap_of (mask_of common channel end exp) (snroffset_of common channel) (floor_of common) 0 end exp

  pub length-allocated : (n : ℕ) → length (allocated common channel end exp n) ≡ n
  unfolding allocated
  length-allocated n = length-tab n bin-of

  -- an entry is the bap of its bin, past the list's end 0
  allocated-at : (P : ℕ → Type 0) (n i : ℕ) → P 0 → P (bin-of i) → P (get_or (allocated common channel end exp n) i 0)
  unfolding allocated
  allocated-at P n i past each = go (dec_lt i n)
    where
      go : Dec (i < n) → P (get_or (tab n bin-of) i 0)
      go (yes l) = rw (get_or-tab n bin-of i l) each
      go (no l) = let e : length (tab n bin-of) ≤ i = omega (arith, length-tab n bin-of, l) in rw (get_or-eq_default (tab n bin-of) 0 e) past

  bin-past : (bin : ℕ) → end ≤ bin → bin-of bin ≡ 0
  unfolding bap_of
  bin-past bin h = rw (le-leb 0 bin (omega arith), le-ltb bin end h)

  -- from end on it is 0
  pub allocated-past : (n i : ℕ) → end ≤ i → get_or (allocated common channel end exp n) i 0 ≡ 0
  allocated-past n i h = allocated-at (λ (x : ℕ). x ≡ 0) n i refl (bin-past i h)

  bin-most : (bin : ℕ) → bin-of bin ≤ 15
  unfolding bap_of
  bin-most bin = go (leb 0 bin && ltb bin end)
    where
      a : ℕ
      a = address (psd (get_or exp bin 0)) (lowered (mask_of common channel end exp (entry masktab bin)) (snroffset_of common channel) (floor_of common))

      go : (t : Bool) → cond t (entry baptab a) 0 ≤ 15
      go true = baptab-most a
      go false = omega arith

  pub allocated-most : (n i : ℕ) → get_or (allocated common channel end exp n) i 0 ≤ 15
  allocated-most n i = allocated-at (λ (x : ℕ). x ≤ 15) n i (omega arith) (bin-most i)

-- it depends on the exponents below end only
module _ (common : Common) (channel : ChannelCodes) (end : ℕ) (exp other : List ℕ) where
  mask-same : ((bin : ℕ) → bin < end → get_or exp bin 0 ≡ get_or other bin 0) → (band : ℕ)
      → mask_of common channel end exp band ≡ mask_of common channel end other band
  unfolding mask_of
  mask-same same band =
      let b : (k : ℕ) → bndpsd exp 0 end k ≡ bndpsd other 0 end k = λ k. bndpsd-same exp other 0 end k (λ i l h. same i h) in
      rw (b band, excite-same (leak_of common channel) (lfe_end end) (bndpsd exp 0 end) (bndpsd other 0 end) band (λ i h. b i))

  bin_same : ((bin : ℕ) → bin < end → get_or exp bin 0 ≡ get_or other bin 0) → (bin : ℕ)
      → bap_of (mask_of common channel end exp) (snroffset_of common channel) (floor_of common) 0 end exp bin
      ≡ bap_of (mask_of common channel end other) (snroffset_of common channel) (floor_of common) 0 end other bin
  unfolding bap_of
  bin_same same bin = go (dec_lt bin end)
    where
      go : Dec (bin < end) → cond (leb 0 bin && ltb bin end) (entry baptab (address (psd (get_or exp bin 0)) (lowered (mask_of common channel end exp (entry masktab bin)) (snroffset_of common channel) (floor_of common)))) 0
          ≡ cond (leb 0 bin && ltb bin end) (entry baptab (address (psd (get_or other bin 0)) (lowered (mask_of common channel end other (entry masktab bin)) (snroffset_of common channel) (floor_of common)))) 0
      go (yes l) = rw (same bin l, mask-same same (entry masktab bin))
      go (no l) = rw (le-leb 0 bin (omega arith), le-ltb bin end (omega (arith, l)))

  pub allocated_same : (n : ℕ) → ((bin : ℕ) → bin < end → get_or exp bin 0 ≡ get_or other bin 0) → allocated common channel end exp n ≡ allocated common channel end other n
  unfolding allocated
  allocated_same n same = tab-cong _ _ n (λ bin h. bin_same same bin)

-- ---- legal codes

-- a segment in use is one of the eight
segment_there : (channel : ChannelCodes) (i : ℕ) (d : Segment) → i < length (segments_of channel) → get_or (segments_of channel) i d ≡ get_or channel.segments i no_segment
segment_there channel i d l =
    let few = length-take channel.nseg channel.segments in
    get_or-take channel.nseg channel.segments i d (omega (arith, few)) ∙ get_or_default channel.segments i d no_segment (omega (arith, few))

-- the codes of a legal record are legal
pub codes-legal : {common : Common} {c : ℕ} {channel : ChannelRecord} → LegalCommon common → LegalRecord common c channel → LegalCodes common channel.codes
codes-legal {channel = channel} common r =
    record {
      fscod = common.fscod;
      sdcycod = common.sdcycod;
      fdcycod = common.fdcycod;
      sgaincod = common.sgaincod;
      dbpbcod = common.dbpbcod;
      floorcod = common.floorcod;
      csnroffst = common.csnroffst;
      fsnroffst = r.fsnroffst;
      fgaincod = r.fgaincod;
      nseg = r.nseg;
      segments = λ i d l. subst LegalSegment (sym (segment_there channel.codes i d l)) (r.segments i);
    }
