-- The held forms are A/52's: the floor, the offset, the lowered mask, the address, and the whole allocation.
use Rattle.std.specs.Prelude.{ℕ, suc, ◌+◌, ◌-◌, ◌/◌, min, ◌≤◌, ◌<◌, Bool, false, List, ◌≡◌, T, eqb, ℤ, negsuc, neg_ℤ, ◌+ℤ◌, ◌-ℤ◌, get_or}
use Rattle.std.proofs.Common.{sym, ◌∙◌, arith, eqb→eq, le-leb}
use Rattle.std.proofs.Math.Path.{ap}
use Rattle.std.specs.Int.Bits.{bit_and}
use Rattle.std.proofs.Math.IntN.{pos, +ℤ_assoc}
use Rattle.std.specs.Int.Signed.{shr_z}
use Rattle.bits.specs.Parts.{tab}
use Rattle.bits.specs.PartsLaws.{tab-cong}
use Rattle.tables.specs.Bands.{masktab}
use Rattle.tables.specs.Computed.{all_below, at-index}
use Rattle.tables.specs.Entry.{entry, row}
use Rattle.tables.specs.Masking.{hth}
use Rattle.tables.specs.Parameters.{floortab, signed16}
use Rattle.tables.proofs.Rules.{masktab-most, dbpbtab-most, hth-least}
use Rattle.sheet.specs.Ranges.{lfe_end}
use Rattle.sheet.specs.Record.{segments_of}
use Rattle.sheet.specs.declared.common_part.Common.{Common}
use Rattle.sheet.specs.declared.record.ChannelCodes.{ChannelCodes}
use Rattle.excitation.specs.Signed.{hold}
use Rattle.excitation.specs.SignedLaws.{hold-sub, hold-shr, pos-diff-sub, diff-sub}
use Rattle.excitation.specs.Psd.{psd}
use Rattle.excitation.specs.BandPsd.{bndpsd}
use Rattle.excitation.specs.Excitation.{excite}
use Rattle.excitation.specs.Held.{after}
use Rattle.excitation.specs.HeldLaws.{excite-held}
use Rattle.masking.specs.Threshold.{masking_curve}
use Rattle.masking.specs.Delta.{deltas}
use Rattle.masking.specs.Held.{held_curve, held_deltas}
use Rattle.masking.specs.HeldLaws.{curve-held, curve-least, deltas-held}
use Rattle.allocation.specs.Initialization.{leak_of, dbknee_of, floor_of, snroffset, snroffset_of}
use Rattle.allocation.specs.Bap.{lowered, address, bap_of}
use Rattle.allocation.specs.Allocation.{mask_of, allocated}
use Rattle.allocation.specs.Legal.{LegalCodes}
use Rattle.allocation.specs.Held.{held_floor, held_offset, parameters_of, held_lowered, held_address, held_bap, held_level, level_at, bap_at, held_below, held_bin}

-- ---- the parameters, by computed tests over all codes

int_eq : ℤ → ℤ → Bool
int_eq (pos a) (pos b) = eqb a b
int_eq (pos a) (negsuc b) = false
int_eq (negsuc a) (pos b) = false
int_eq (negsuc a) (negsuc b) = eqb a b

int_eq→eq : (x y : ℤ) → T (int_eq x y) → x ≡ y
unfolding int_eq
int_eq→eq (pos a) (pos b) t = ap pos (eqb→eq a b t)
int_eq→eq (pos a) (negsuc b) t = absurd t
int_eq→eq (negsuc a) (pos b) t = absurd t
int_eq→eq (negsuc a) (negsuc b) t = ap negsuc (eqb→eq a b t)

offset-held-at : ℕ → ℕ → Bool
offset-held-at c f = int_eq (snroffset c f) (pos (held_offset c f) -ℤ pos 960)

offset-held-all : T (all_below 64 (λ (c : ℕ). all_below 16 (offset-held-at c)))
unfolding offset-held-at int_eq snroffset held_offset
offset-held-all = tt

pub offset-held : (c f : ℕ) → c < 64 → f < 16 → snroffset c f ≡ pos (held_offset c f) -ℤ pos 960
unfolding offset-held-at
offset-held c f hc hf = int_eq→eq _ _ (at-index 16 (offset-held-at c) (at-index 64 (λ (c : ℕ). all_below 16 (offset-held-at c)) offset-held-all c hc) f hf)

floor-held-at : ℕ → Bool
floor-held-at c = int_eq (signed16 (entry floortab c)) (pos (held_floor (entry floortab c)) -ℤ pos 2048)

floor-held-all : T (all_below 8 floor-held-at)
unfolding floor-held-at int_eq signed16 held_floor entry floortab
floor-held-all = tt

pub floor-held : (c : ℕ) → c < 8 → signed16 (entry floortab c) ≡ pos (held_floor (entry floortab c)) -ℤ pos 2048
unfolding floor-held-at
floor-held c h = int_eq→eq _ _ (at-index 8 floor-held-at floor-held-all c h)

-- ---- the lowered mask and the address

pub lowered-held : (m offset floor : ℕ) → lowered (pos m) (pos offset -ℤ pos 960) (pos floor -ℤ pos 2048) ≡ pos (held_lowered m offset floor) -ℤ pos 2048
unfolding lowered held_lowered
lowered-held m offset floor =
    let d : pos m -ℤ (pos offset -ℤ pos 960) -ℤ (pos floor -ℤ pos 2048) ≡ pos (m + 960 + 2048) -ℤ pos (offset + floor) =
    ap (λ (z : ℤ). z -ℤ (pos floor -ℤ pos 2048)) (pos-diff-sub m offset 960) ∙ diff-sub (m + 960) offset floor 2048 in
    let e : hold (pos m -ℤ (pos offset -ℤ pos 960) -ℤ (pos floor -ℤ pos 2048)) ≡ m + 3008 - (offset + floor) =
    ap hold d ∙ hold-sub (pos (m + 960 + 2048)) (offset + floor) ∙ omega arith in
    ap (λ (n : ℕ). pos (bit_and n 0x1fe0) +ℤ (pos floor -ℤ pos 2048)) e
    ∙ sym (+ℤ_assoc (pos (bit_and (m + 3008 - (offset + floor)) 0x1fe0)) (pos floor) (neg_ℤ (pos 2048)))

pub address-held : (power level : ℕ) → address power (pos level -ℤ pos 2048) ≡ held_address power level
unfolding address held_address
address-held power level =
    ap (λ (z : ℤ). min (hold (shr_z z 32)) 63) (pos-diff-sub power level 2048)
    ∙ ap (λ (n : ℕ). min n 63) (hold-shr (pos (power + 2048) -ℤ pos level) 32 ∙ ap (λ (n : ℕ). n / 32) (hold-sub (pos (power + 2048)) level))

-- ---- the whole

module _ (common : Common) (channel : ChannelCodes) (legal : LegalCodes common channel) (end : ℕ) (exp : List ℕ) where
  knee-most : dbknee_of common ≤ 3008
  unfolding dbknee_of
  knee-most = omega (arith, dbpbtab-most common.dbpbcod)

  curve : ℕ → ℕ
  curve band = held_curve (after (leak_of common channel) (lfe_end end) (bndpsd exp 0 end) (suc band)).excite (bndpsd exp 0 end band) (dbknee_of common)
      (entry (row hth common.fscod) band)

  mask-held : (band : ℕ) → band < 50 → mask_of common channel end exp band
      ≡ pos (curve band + held_deltas (segments_of channel) band - 512)
  unfolding mask_of curve
  mask-held band h =
      let p = leak_of common channel in
      let f : common.fscod < 3 = omega (arith, legal.fscod) in
      let t = entry (row hth common.fscod) band in
      let c : masking_curve (excite p (lfe_end end) (bndpsd exp 0 end) band) (bndpsd exp 0 end band) (dbknee_of common) common.fscod band ≡ pos (curve band) =
      curve-held (excite p (lfe_end end) (bndpsd exp 0 end) band) (bndpsd exp 0 end band) (dbknee_of common) common.fscod band knee-most f h
      ∙ ap (λ (x : ℕ). pos (held_curve x (bndpsd exp 0 end band) (dbknee_of common) t)) (excite-held p (lfe_end end) (bndpsd exp 0 end) band) in
      ap (λ (z : ℤ). z +ℤ deltas (segments_of channel) band) c
      ∙ deltas-held (curve band) (omega (arith, curve-least (after p (lfe_end end) (bndpsd exp 0 end) (suc band)).excite (bndpsd exp 0 end band) (dbknee_of common) t, hth-least common.fscod band f h))
      (segments_of channel) band

  abbrev level : ℕ → ℕ
  level = level_at (parameters_of common channel) (row hth common.fscod) (segments_of channel) end exp

  level-held : (band : ℕ) → band < 50
      → lowered (mask_of common channel end exp band) (snroffset_of common channel) (floor_of common) ≡ pos (level band) -ℤ pos 2048
  unfolding snroffset_of floor_of level_at held_level parameters_of curve
  level-held band h =
      rw (mask-held band h, offset-held common.csnroffst channel.fsnroffst (omega (arith, legal.csnroffst)) (omega (arith, legal.fsnroffst)), floor-held common.floorcod (omega (arith, legal.floorcod)))
      (lowered-held (curve band + held_deltas (segments_of channel) band - 512) (held_offset common.csnroffst channel.fsnroffst) (held_floor (entry floortab common.floorcod)))

  bin-held : (bin : ℕ)
      → bap_of (mask_of common channel end exp) (snroffset_of common channel) (floor_of common) 0 end exp bin ≡ held_bin common channel end exp bin
  unfolding bap_of held_bin held_below bap_at held_bap
  bin-held bin =
      let a : address (psd (get_or exp bin 0)) (lowered (mask_of common channel end exp (entry masktab bin)) (snroffset_of common channel) (floor_of common))
      ≡ held_address (psd (get_or exp bin 0)) (level (entry masktab bin)) =
      rw (level-held (entry masktab bin) (omega (arith, masktab-most bin))) (address-held (psd (get_or exp bin 0)) (level (entry masktab bin))) in
      rw (le-leb 0 bin (omega arith), a)

  pub allocated-held : (n : ℕ) → allocated common channel end exp n ≡ tab n (held_bin common channel end exp)
  unfolding allocated
  allocated-held n = tab-cong _ _ n (λ bin h. bin-held bin)
