-- From the arrays of the bands to the allocation.
use Prim.Native.Nat.{ℕ, suc, ◌+◌, ◌-◌, ◌%◌, ◌≤◌, ◌<◌}
use mathlib.Core.Bool.{Bool, true, false, ◌&&◌, ◌||◌}
use mathlib.Core.List.{List, ◌++◌}
use mathlib.Core.Path.{◌≡◌, refl, sym, ap, ◌∙◌}
use native.Mathlib.Decide.{dec_lt}
use native.Mathlib.Omega.{arith}
use lib.Dec.{T, leb, eqb, leb→le}
use lib.ListN.{length, take, drop, get_or, replicate, length-take, length-drop, length-append, get_or-eq_default}
use lib.Seq.{take-length, take_at, get_or-take}
use borrow.Author.Tests.{lt-ltb, le-ltb, eqb-true, leb-true}
use Rattle.bits.specs.Parts.{tab}
use Rattle.bits.specs.PartsLaws.{length-tab, get_or-tab, tab-cong, placed}
use Rattle.bits.specs.Tests.{both}
use Rattle.tables.specs.Bands.{bndtab, masktab}
use Rattle.tables.specs.Computed.{all_below, at-index}
use Rattle.tables.specs.Entry.{entry, row}
use Rattle.tables.specs.Masking.{hth}
use Rattle.tables.specs.Parameters.{floortab}
use Rattle.tables.proofs.Rules.{bndtab-one, dbpbtab-most, hth-least, hth-most, length-hth}
use Rattle.std.specs.List.{All}
use Rattle.sheet.specs.Legal.{LegalSegment}
use Rattle.sheet.specs.Record.{segments_of}
use Rattle.sheet.specs.Ranges.{lfe_end, full_end, legal_end}
use Rattle.sheet.specs.declared.common_part.Common.{Common}
use Rattle.sheet.specs.declared.record.ChannelCodes.{ChannelCodes}
use Rattle.excitation.specs.BandPsd.{bndpsd}
use Rattle.excitation.specs.BandPsdLaws.{bndpsd-most, bndpsd-same}
use Rattle.excitation.specs.BandOrder.{Bands}
use Rattle.excitation.specs.Front.{front}
use Rattle.excitation.specs.FrontLaws.{tab-zeros}
use Rattle.excitation.specs.Held.{after, excited_by}
use Rattle.excitation.specs.HeldLaws.{after-le, after_same}
use Rattle.excitation.specs.declared.excitation.LeakParameters.{LeakParameters}
use Rattle.excitation.specs.declared.excitation.LeakState.{LeakState}
use Rattle.masking.specs.Held.{held_deltas}
use Rattle.masking.specs.HeldLaws.{deltas-most}
use Rattle.allocation.specs.Initialization.{dbknee_of}
use Rattle.allocation.specs.Allocation.{allocated}
use Rattle.allocation.specs.Legal.{LegalCodes}
use Rattle.allocation.specs.Held.{held_floor, held_offset, parameters_of, Small, level_at, bap_from, bap_by, bap_at, held_below, held_bin}
use Rattle.allocation.specs.HeldLaws.{allocated-held}
use Rattle.allocation.specs.declared.initialization.Parameters.{Parameters}
use Rattle.allocation.proofs.ByBand.{below-bands, array_at, array-most}
use Rattle.allocation.proofs.Filling.{tab-part}

-- ---- the parameters

floor-most-all : T (all_below 8 (λ (c : ℕ). leb (held_floor (entry floortab c)) 5120))
unfolding held_floor entry floortab
floor-most-all = tt

pub parameters-small : (common : Common) (channel : ChannelCodes) (p : Parameters) → LegalCodes common channel → p ≡ parameters_of common channel
    → Small p
unfolding parameters_of dbknee_of held_offset
parameters-small common channel p l e =
    let floor : held_floor (entry floortab common.floorcod) ≤ 5120 = leb→le _ _ (at-index 8 (λ (c : ℕ). leb (held_floor (entry floortab c)) 5120) floor-most-all common.floorcod (omega (arith, l.floorcod))) in
    rw e (omega (arith, dbpbtab-most common.dbpbcod), omega (arith, l.csnroffst, l.fsnroffst), floor)

-- ---- how many bands

-- the LFE has 7 bands, another channel more than 22
pub legal-bands : (end n : ℕ) → legal_end end ≡ true → Bands end n → n < 22 → n ≡ 7
legal-bands end n legal b h = go (lfe_end end) refl legal
  where
    start : entry bndtab n ≡ n
    start = bndtab-one n (omega arith)

    go : (t : Bool) → lfe_end end ≡ t → (t || full_end end) ≡ true → n ≡ 7
    go true e k = lfe (eqb-true end 7 e) (dec_lt 7 n)
      where
        lfe : end ≡ 7 → Dec (7 < n) → n ≡ 7
        lfe q (yes u) = absurd (omega (arith, b.each 7 u, bndtab-one 7 (omega arith)))
        lfe q (no u) = omega (arith, u, b.last (omega arith), start)
    go false e k =
        let sides = both (leb 37 end) (leb end 253) (both (leb 37 end && leb end 253) (eqb ((end - 1) % 3) 0) k).0 in
        absurd (omega (arith, leb-true 37 end sides.0, b.last (omega arith), start))

-- ---- the arrays

-- the bins below end, as a list of their own, have the same bands and the same psds
pub bins-long : (exp : List ℕ) (end : ℕ) → end ≤ length exp → length (take end exp) ≡ end
bins-long exp end h = rw length-take (omega arith)

pub bins-most : (exp : List ℕ) (end : ℕ) → end ≤ length exp → ((i : ℕ) → i < end → get_or exp i 0 ≤ 24)
    → (i : ℕ) → i < length (take end exp) → get_or (take end exp) i 0 ≤ 24
bins-most exp end h most i l = let u : i < end = omega (arith, bins-long exp end h) in rw (get_or-take end exp i 0 u) (most i u)

pub bins-bands : (exp : List ℕ) (end n : ℕ) → end ≤ length exp → Bands (length (take end exp)) n → Bands end n
bins-bands exp end n h b = rw (bins-long exp end h) at b

pub bins-powers : (exp : List ℕ) (end : ℕ) (powers : List ℕ) → end ≤ length exp → powers ≡ tab 51 (bndpsd (take end exp) 0 (length (take end exp)))
    → powers ≡ tab 51 (bndpsd exp 0 end)
bins-powers exp end powers h e =
    e
    ∙ ap (λ (k : ℕ). tab 51 (bndpsd (take end exp) 0 k)) (bins-long exp end h)
    ∙ tab-cong (bndpsd (take end exp) 0 end) (bndpsd exp 0 end) 51 (λ k _. bndpsd-same (take end exp) exp 0 end k (λ i _ l. get_or-take end exp i 0 l))

-- what is filled in by them stands in front of what stood behind
from-bins : (bases exp : List ℕ) (end bin : ℕ) → bin < end → bap_from bases (take end exp) bin ≡ bap_from bases exp bin
unfolding bap_from
from-bins bases exp end bin h = rw (get_or-take end exp bin 0 h) refl

pub bins-filled : (bases exp bap filled : List ℕ) (end : ℕ) → end ≤ length exp → end ≤ length bap
    → filled ≡ tab (length (take end exp)) (bap_from bases (take end exp))
    → (length (filled ++ drop end bap) ≡ length bap) × (take end (filled ++ drop end bap) ≡ tab end (bap_from bases exp))
bins-filled bases exp bap filled end h room q =
    let e : filled ≡ tab end (bap_from bases exp) =
    q ∙ ap (λ (k : ℕ). tab k (bap_from bases (take end exp))) (bins-long exp end h) ∙ tab-cong _ _ end (λ bin l. from-bins bases exp end bin l) in
    let n : length filled ≡ end = ap length e ∙ length-tab end (bap_from bases exp) in
    (rw (length-append, length-drop) (omega arith), take_at filled (drop end bap) end n ∙ e)

pub powers-most : (exp : List ℕ) (end : ℕ) (powers : List ℕ) → powers ≡ tab 51 (bndpsd exp 0 end) → (k : ℕ) → get_or powers k 0 ≤ 3492
powers-most exp end powers e k = rw e (go (dec_lt k 51))
  where
    go : Dec (k < 51) → get_or (tab 51 (bndpsd exp 0 end)) k 0 ≤ 3492
    go (yes l) = rw (get_or-tab 51 (bndpsd exp 0 end) k l) (bndpsd-most exp 0 end k)
    go (no l) = rw (get_or-eq_default (tab 51 (bndpsd exp 0 end)) 0 {n = k} (omega (arith, l, length-tab 51 (bndpsd exp 0 end)))) (omega arith)

excited-most : (p : LeakParameters) (lfe : Bool) (powers : List ℕ) → ((k : ℕ) → get_or powers k 0 ≤ 3492) → (k : ℕ) → excited_by p lfe powers k ≤ 3492
unfolding excited_by
excited-most p lfe powers h k = (after-le p lfe (λ i. get_or powers i 0) 3492 h (suc k)).excite≤

pub excites-small : (p : LeakParameters) (lfe : Bool) (powers : List ℕ) (n : ℕ) (xs zs : List ℕ) → n ≤ 50 → xs ≡ front (excited_by p lfe powers) n zs → zs ≡ replicate 50 0
    → ((k : ℕ) → get_or powers k 0 ≤ 3492) → (k : ℕ) → get_or xs k 0 ≤ 8191
excites-small p lfe powers n xs zs few e z h =
    array-most (excited_by p lfe powers) 0 n xs zs few e z 8191 (λ k. omega (arith, excited-most p lfe powers h k)) (omega arith)

pub deltas-small : (channel : ChannelCodes) (xs : List ℕ) → xs ≡ tab 50 (held_deltas (segments_of channel)) → All LegalSegment (segments_of channel) → (k : ℕ) → get_or xs k 0 ≤ 32768
deltas-small channel xs e h k = rw e (go (dec_lt k 50))
  where
    f : ℕ → ℕ
    f = held_deltas (segments_of channel)

    go : Dec (k < 50) → get_or (tab 50 f) k 0 ≤ 32768
    go (yes l) = rw (get_or-tab 50 f k l) (omega (arith, deltas-most (segments_of channel) k (λ i d q. (h i d q).ba)))
    go (no l) = rw (get_or-eq_default (tab 50 f) 0 {n = k} (omega (arith, l, length-tab 50 f))) (omega arith)

pub thresholds-long : (fscod : ℕ) (table : List ℕ) → fscod ≤ 2 → table ≡ row hth fscod → length table ≡ 50
thresholds-long fscod table h e = ap length e ∙ length-hth fscod (omega arith)

pub thresholds-least : (fscod : ℕ) (table : List ℕ) → fscod ≤ 2 → table ≡ row hth fscod → (k : ℕ) → k < 50 → 512 ≤ get_or table k 0
unfolding entry
thresholds-least fscod table h e k l = rw e (omega (arith, hth-least fscod k (omega arith) l))

pub thresholds-most : (fscod : ℕ) (table : List ℕ) → table ≡ row hth fscod → (k : ℕ) → get_or table k 0 ≤ 8191
unfolding entry
thresholds-most fscod table e k = rw e (omega (arith, hth-most fscod k))

-- ---- the whole

-- what the arrays hold
pub record Arrays (common : Common) (channel : ChannelCodes) (end : ℕ) (exp : List ℕ) (p : Parameters) (n : ℕ) (powers excites added thresholds : List ℕ) : Type 0 where
  pub parameters : p ≡ parameters_of common channel
  pub bands : Bands end n
  pub powers-are : powers ≡ tab 51 (bndpsd exp 0 end)
  pub excites-are : (k : ℕ) → k < n → get_or excites k 0 ≡ excited_by p.leak (lfe_end end) powers k
  pub added-are : (k : ℕ) → k < n → get_or added k 0 ≡ held_deltas (segments_of channel) k
  pub thresholds-are : thresholds ≡ row hth common.fscod

pub arrays : (common : Common) (channel : ChannelCodes) (end : ℕ) (exp : List ℕ) (p : Parameters) (n : ℕ) (powers excites added thresholds zeros : List ℕ)
    → p ≡ parameters_of common channel → Bands end n → powers ≡ tab 51 (bndpsd exp 0 end)
    → excites ≡ front (excited_by p.leak (lfe_end end) powers) n zeros → zeros ≡ replicate 50 0
    → added ≡ tab 50 (held_deltas (segments_of channel))
    → thresholds ≡ row hth common.fscod → Arrays common channel end exp p n powers excites added thresholds
arrays common channel end exp p n powers excites added thresholds zeros q b w x z d t =
    record {
      parameters = q;
      bands = b;
      powers-are = w;
      excites-are = array_at (excited_by p.leak (lfe_end end) powers) 0 n excites zeros b.few x z;
      added-are = λ k l. rw d (get_or-tab 50 (held_deltas (segments_of channel)) k (omega (arith, b.few)));
      thresholds-are = t;
    }

module _ (common : Common) (channel : ChannelCodes) (legal : LegalCodes common channel) (end : ℕ) (few : end ≤ 253) (exp : List ℕ) (p : Parameters) (n : ℕ)
    (powers excites added thresholds : List ℕ) (a : Arrays common channel end exp p n powers excites added thresholds) where
  power_at : (k : ℕ) → k < 51 → get_or powers k 0 ≡ bndpsd exp 0 end k
  power_at k h = ap (λ (l : List ℕ). get_or l k 0) a.powers-are ∙ get_or-tab 51 (bndpsd exp 0 end) k h

  excite-at : (k : ℕ) → k < n → get_or excites k 0 ≡ (after p.leak (lfe_end end) (bndpsd exp 0 end) (suc k)).excite
  unfolding excited_by
  excite-at k h =
      let m = a.bands.few in
      a.excites-are k h
      ∙ ap (λ (s : LeakState). s.excite) (after_same p.leak (lfe_end end) (λ i. get_or powers i 0) (bndpsd exp 0 end) (suc k) (λ i l. power_at i (omega arith)))

  -- a bin below end has the bap that the allocation says
  by-is : (bin : ℕ) → bin < end → bap_by p powers excites added thresholds exp bin ≡ held_bin common channel end exp bin
  unfolding bap_by held_bin held_below bap_at level_at entry
  by-is bin h =
      let k = entry masktab bin in
      let l : k < n = below-bands end n bin few a.bands h in
      let m = a.bands.few in
      rw (excite-at k l, power_at k (omega arith), a.added-are k l, a.thresholds-are, a.parameters, lt-ltb bin end h)

  from_end : (i : ℕ) → held_bin common channel end exp (end + i) ≡ 0
  unfolding held_bin
  from_end i = rw (le-ltb (end + i) end (omega arith))

  -- filled below end, and 0 from end on
  pub allocate-done : (l ys : List ℕ) (size : ℕ) → end ≤ length l → length l ≡ size → take end l ≡ tab end (bap_by p powers excites added thresholds exp)
      → ys ≡ replicate (length (take (length l - end) (drop end l))) 0 → placed end (length l - end) l ys ≡ allocated common channel end exp size
  allocate-done l ys size h m e y =
      let f = held_bin common channel end exp in
      let first : take end l ≡ tab end f = e ∙ tab-cong (bap_by p powers excites added thresholds exp) f end by-is in
      let z : length (take (length l - end) (drop end l)) ≡ length l - end = rw (length-take, length-drop) (omega arith) in
      let rest : ys ≡ tab (length l - end) (λ i. f (end + i)) = y ∙ rw z (tab-zeros (λ i. f (end + i)) (length l - end) (λ i _. from_end i)) in
      let d = tab-part f l ys end (length l) h (omega arith) first rest in
      let whole : placed end (length l - end) l ys ≡ tab (length l) f =
      sym (take-length (placed end (length l - end) l ys)) ∙ ap (λ (k : ℕ). take k (placed end (length l - end) l ys)) d.1 ∙ d.0 in
      whole ∙ rw m (sym (allocated-held common channel legal end exp size))
