-- How a frame reads back, part by part: whatever bits follow, a channel's set, a block's sets and a block are read as they were written.
-- The parts compose by the laws of bits/specs/ReadingLaws.antt.
use Prim.Native.Nat.{ℕ, zero, suc, ◌-◌, ◌*◌, ◌≤◌, ◌<◌}
use Rattle.std.specs.Prelude.{◌≡◌, refl, true, List, ◌++◌, take, replicate}
use Rattle.std.proofs.Math.Path.{sym, ap}
use Rattle.std.proofs.Common.{◌∙◌, append_assoc, arith, length-append, length-take-le}
use Rattle.std.proofs.Math.ListN.{length}
use Rattle.bits.specs.Parts.{joined, piece, tab}
use Rattle.bits.specs.Reading.{ok}
use Rattle.bits.specs.ReadingLaws.{reads-map, reads-gather, Reads}
use Rattle.elements.specs.declared.set.ExponentSet.{ExponentSet}
use Rattle.elements.specs.declared.set.ExponentSet.TheVariants.{Reuse, New}
use Rattle.elements.specs.Strategy.{grpsize}
use Rattle.exponents.specs.Groups.{exponent_bits}
use Rattle.exponents.specs.Reading.{read_exponents}
use Rattle.exponents.specs.ReadingLaws.{reads-exponents}
use Rattle.mantissas.specs.ReadBack.{reads-stream}
use Rattle.mantissas.specs.Stream.{stream}
use Rattle.mantissas.specs.Inner.{Coded}
use Rattle.shaping.specs.GroupsLaws.{is_span-grpsize}
use Rattle.sheet.specs.Ranges.{legal_end}
use Rattle.sheet.specs.Settings.{channels, end_at, set_at}
use Rattle.sheet.specs.LegalSettings.{LegalSettings}
use Rattle.sheet.specs.declared.settings.Settings.{Settings}
use Rattle.frame.specs.Layout.{row_of, clean, clean_row}
use Rattle.frame.specs.LayoutLaws.{length-row, end-inside, clean-clean, piece-clean, bap_row-clean}
use Rattle.frame.specs.Body.{set_bits, sets_bits, bap_row, mantissa_bits, block_bits, exponent_counts, mantissa_counts}
use Rattle.frame.specs.Legal.{part_legal, row_legal}
use Rattle.frame.specs.LegalLaws.{part-repeats, part-shaped, part-of-row}
use Rattle.frame.specs.Reader.{Frame, read_part, read_sets, read_block, grown, nothing, earlier}
use Rattle.frame.specs.Under.{channel-known}

-- what is read of its first k blocks: exponents and codes with 0 from each end on, their allocation and their counts
unfoldable pub frame_of : Settings → List ℕ → List ℕ → ℕ → Frame
frame_of settings exps codes k =
    record {
      exps = joined k (λ b. clean_row settings (row_of settings b exps));
      bap = joined k (λ b. bap_row settings (row_of settings b exps));
      codes = joined k (λ b. clean_row settings (row_of settings b codes));
      row = earlier settings exps k;
      exponent_bits = exponent_counts settings exps k;
      mantissa_bits = mantissa_counts settings exps codes k;
    }

-- a channel's part: a new set is read back as it was written; a reuse block repeats the earlier part
part-reads : (set : ExponentSet) (end : ℕ) (old part : List ℕ) → legal_end end ≡ true → end ≤ length part → (set ≡ Reuse → clean end old ≡ old)
    → part_legal set end old part ≡ true → Reads (read_part set end old) (set_bits set end part) (clean end part)
unfolding read_part set_bits clean
part-reads Reuse end old part e l kept h =
    record { back = λ rest. ap (λ (p : List ℕ). ok p rest) (sym (kept refl) ∙ ap (λ (p : List ℕ). p ++ replicate (256 - end) 0) (part-repeats end old part h)) }
part-reads (New strategy) end old part e l kept h =
    let long = length-take-le end part l in
    let r : Reads (read_exponents end (grpsize strategy)) (exponent_bits (grpsize strategy) (take end part)) (take end part) =
    rw long at (reads-exponents (grpsize strategy) (take end part) (rw long e) (is_span-grpsize strategy) (part-shaped strategy end old part h)) in
    reads-map (λ (exps : List ℕ). exps ++ replicate (256 - end) 0) r

module _ (settings : Settings) (under : LegalSettings settings) where
  -- the row before holds 0 from each end on, wherever block b reuses it
  abbrev pub KeptRow : ℕ → List ℕ → Type 0
  KeptRow b old = (c : ℕ) → c < channels settings → set_at settings b c ≡ Reuse → clean (end_at settings c) (piece 256 c old) ≡ piece 256 c old

  -- the sets of block b
  sets-read : (b : ℕ) (old row : List ℕ) → length row ≡ 256 * channels settings → KeptRow b old → row_legal settings b old row ≡ true
      → Reads (read_sets settings b old) (sets_bits settings b row) (clean_row settings row)
  unfolding read_sets sets_bits clean_row
  sets-read b old row long kept h =
      reads-gather _ _ (channels settings)
      (λ c l. part-reads (set_at settings b c) (end_at settings c) (piece 256 c old) (piece 256 c row)
      (channel-known settings under c l).legal (end-inside settings under row long c l) (kept c l) (part-of-row settings b old row h c l))

  -- block b: its sets, then, by the allocation that they give, its mantissas
  pub block_reads : (b : ℕ) (s : Frame) (row codes : List ℕ) → length row ≡ 256 * channels settings → KeptRow b s.row → row_legal settings b s.row row ≡ true
      → Coded (bap_row settings row) (clean_row settings codes)
      → Reads (read_block settings b s) (block_bits settings b row codes)
      (grown s (clean_row settings row) (bap_row settings row) (clean_row settings codes) (length (sets_bits settings b row)) (length (mantissa_bits settings row codes)))
  unfolding read_block block_bits mantissa_bits
  block_reads b s row codes long kept h k =
      record {
        back = λ rest.
            let x = sets_bits settings b row in
            let y = stream (bap_row settings row) (clean_row settings codes) in
            let e : length (x ++ (y ++ rest)) - length (y ++ rest) ≡ length x = rw (length-append x (y ++ rest)) (omega arith) in
            let m : length (y ++ rest) - length rest ≡ length y = rw (length-append y rest) (omega arith) in
            rw (append_assoc x y rest, (sets-read b s.row row long kept h).back (y ++ rest), bap_row-clean settings under row long, (reads-stream k).back rest, e, m);
      }

  -- the row before is such a row in every block of a frame
  pub earlier-kept : (exps : List ℕ) → length exps ≡ 256 * channels settings * 6 → (b : ℕ) → b < 6 → KeptRow b (earlier settings exps b)
  unfolding earlier
  earlier-kept exps long zero l c h z = absurd ((channel-known settings under c h).first z)
  earlier-kept exps long (suc b) l c h z =
      let row = row_of settings b exps in
      let n = length-row settings exps b long (omega arith) in
      let p = piece-clean settings under row n c h in
      ap (clean (end_at settings c)) p ∙ clean-clean (end_at settings c) (piece 256 c row) (end-inside settings under row n c h) ∙ sym p

-- ---- what was read before block b, and after it

pub frame-grows : (settings : Settings) (exps codes : List ℕ) (b : ℕ)
    → grown (frame_of settings exps codes b) (clean_row settings (row_of settings b exps)) (bap_row settings (row_of settings b exps)) (clean_row settings (row_of settings b codes))
    (length (sets_bits settings b (row_of settings b exps))) (length (mantissa_bits settings (row_of settings b exps) (row_of settings b codes)))
    ≡ frame_of settings exps codes (suc b)
unfolding grown frame_of earlier exponent_counts mantissa_counts tab joined
frame-grows settings exps codes b = refl

pub frame-starts : (settings : Settings) (exps codes : List ℕ) → frame_of settings exps codes 0 ≡ nothing settings
unfolding frame_of nothing earlier exponent_counts mantissa_counts tab joined
frame-starts settings exps codes = refl

pub row_at : (settings : Settings) (exps codes : List ℕ) (b : ℕ) → (frame_of settings exps codes b).row ≡ earlier settings exps b
unfolding frame_of
row_at settings exps codes b = refl
