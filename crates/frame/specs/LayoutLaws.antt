-- Laws of a frame's rows and parts: their lengths, the parts of a row that is put together, where a part starts, and that an allocation
-- looks below the end only.
use Rattle.std.specs.Prelude.{ℕ, zero, suc, ◌+◌, ◌-◌, ◌*◌, ◌≤◌, ◌<◌, ◌≡◌, refl, List, [], ◌∷◌, ◌++◌, length, take, drop, get_or, replicate}
use Rattle.std.proofs.Common.{sym, ap, ap₂, ◌∙◌, mul-add, mul_assoc, arith, length-append, length-take-le, take_at, take-take, drop-drop, get_or-take}
use Rattle.std.proofs.Math.Nat.{sub-zero, zero-sub, suc-sub-suc}
use Rattle.std.proofs.lemmas.List.{length-replicate}
use Rattle.bits.specs.Parts.{joined, piece}
use Rattle.bits.specs.PartsLaws.{joined-cong, joined_length, piece-joined, length-piece, within}
use Rattle.allocation.specs.AllocationLaws.{length-allocated, allocated-past, allocated_same}
use Rattle.sheet.specs.Layout.{part_start}
use Rattle.sheet.specs.Settings.{channels, record_at, end_at}
use Rattle.sheet.specs.LegalSettings.{LegalSettings}
use Rattle.sheet.specs.declared.settings.Settings.{Settings}
use Rattle.frame.specs.Layout.{row_of, clean, clean_row, SameBelowEnds}
use Rattle.frame.specs.Body.{bap_part, bap_row}
use Rattle.frame.specs.Under.{channel-known}

-- ---- parts

pub length-clean : (end : ℕ) (part : List ℕ) → end ≤ length part → end ≤ 256 → length (clean end part) ≡ 256
unfolding clean
length-clean end part h l = rw (length-append, length-take-le end part h, length-replicate) (omega arith)

-- what stands below end, taken off again
pub take-clean : (end : ℕ) (part : List ℕ) → end ≤ length part → take end (clean end part) ≡ take end part
unfolding clean
take-clean end part h = take_at (take end part) (replicate (256 - end) 0) end (length-take-le end part h)

-- clean once is clean
pub clean-clean : (end : ℕ) (part : List ℕ) → end ≤ length part → clean end (clean end part) ≡ clean end part
unfolding clean
clean-clean end part h = ap (λ (l : List ℕ). l ++ replicate (256 - end) 0) (take-clean end part h)

pub length-bap_part : (settings : Settings) (c : ℕ) (part : List ℕ) → length (bap_part settings c part) ≡ 256
unfolding bap_part
length-bap_part settings c part = length-allocated settings.common (record_at settings c).codes (end_at settings c) part 256

-- the allocation depends on the exponents below end only
pub bap_part-same : (settings : Settings) (c : ℕ) (part other : List ℕ) → take (end_at settings c) part ≡ take (end_at settings c) other
    → bap_part settings c part ≡ bap_part settings c other
unfolding bap_part
bap_part-same settings c part other e =
    allocated_same settings.common (record_at settings c).codes (end_at settings c) part other 256
    (λ i h. sym (get_or-take (end_at settings c) part i 0 h) ∙ ap (λ (l : List ℕ). get_or l i 0) e ∙ get_or-take (end_at settings c) other i 0 h)

-- a list whose entries from n on are 0
all-zeros : (l : List ℕ) → ((i : ℕ) → get_or l i 0 ≡ 0) → replicate (length l) 0 ≡ l
all-zeros [] h = refl
all-zeros (x ∷ l) h = ap₂ (λ (y : ℕ) (t : List ℕ). y ∷ t) (sym (h 0)) (all-zeros l (λ i. h (suc i)))

zeros-from : (n : ℕ) (l : List ℕ) → ((i : ℕ) → n ≤ i → get_or l i 0 ≡ 0) → take n l ++ replicate (length l - n) 0 ≡ l
zeros-from zero l h = rw (sub-zero) (all-zeros l (λ i. h i (omega arith)))
zeros-from (suc n) [] h = rw (zero-sub)
zeros-from (suc n) (x ∷ l) h = rw (suc-sub-suc) (ap (λ (t : List ℕ). x ∷ t) (zeros-from n l (λ i b. h (suc i) (omega arith))))

bap_part-past : (settings : Settings) (c : ℕ) (part : List ℕ) (i : ℕ) → end_at settings c ≤ i → get_or (bap_part settings c part) i 0 ≡ 0
unfolding bap_part
bap_part-past settings c part i h = allocated-past settings.common (record_at settings c).codes (end_at settings c) part 256 i h

-- from end on an allocation is 0
pub bap_part-clean : (settings : Settings) (c : ℕ) (part : List ℕ) → clean (end_at settings c) (bap_part settings c part) ≡ bap_part settings c part
unfolding clean
bap_part-clean settings c part = rw (length-bap_part settings c part) at (zeros-from (end_at settings c) (bap_part settings c part) (bap_part-past settings c part))

-- ---- rows

pub length-bap_row : (settings : Settings) (row : List ℕ) → length (bap_row settings row) ≡ 256 * channels settings
unfolding bap_row
length-bap_row settings row = joined_length 256 _ (channels settings) (λ c l. length-bap_part settings c _)

pub piece-bap : (settings : Settings) (row : List ℕ) (c : ℕ) → c < channels settings → piece 256 c (bap_row settings row) ≡ bap_part settings c (piece 256 c row)
unfolding bap_row
piece-bap settings row c h = piece-joined 256 _ (channels settings) c (λ j l. length-bap_part settings j _) h

-- a row has C parts of 256 entries
pub length_part : (settings : Settings) (row : List ℕ) (c : ℕ) → length row ≡ 256 * channels settings → c < channels settings → length (piece 256 c row) ≡ 256
length_part settings row c e h = length-piece 256 c row (omega (arith, within 256 c (channels settings) h))

module _ (settings : Settings) (under : LegalSettings settings) (row : List ℕ) (long : length row ≡ 256 * channels settings) where
  pub end-inside : (c : ℕ) → c < channels settings → end_at settings c ≤ length (piece 256 c row)
  end-inside c h = omega (arith, length_part settings row c long h, (channel-known settings under c h).end-most)

  pub length-clean-part : (c : ℕ) → c < channels settings → length (clean (end_at settings c) (piece 256 c row)) ≡ 256
  length-clean-part c h =
      let most : end_at settings c ≤ 256 = omega (arith, (channel-known settings under c h).end-most) in
      length-clean (end_at settings c) (piece 256 c row) (end-inside c h) most

  pub length-clean_row : length (clean_row settings row) ≡ 256 * channels settings
  unfolding clean_row
  length-clean_row = joined_length 256 _ (channels settings) length-clean-part

  pub piece-clean : (c : ℕ) → c < channels settings → piece 256 c (clean_row settings row) ≡ clean (end_at settings c) (piece 256 c row)
  unfolding clean_row
  piece-clean c h = piece-joined 256 _ (channels settings) c length-clean-part h

  pub bap_row-clean : bap_row settings (clean_row settings row) ≡ bap_row settings row
  unfolding bap_row
  bap_row-clean =
      joined-cong _ _ (channels settings)
      (λ c h. bap_part-same settings c (piece 256 c (clean_row settings row)) (piece 256 c row)
      (ap (take (end_at settings c)) (piece-clean c h) ∙ take-clean (end_at settings c) (piece 256 c row) (end-inside c h)))

-- block b of a whole buffer
pub length-row : (settings : Settings) (l : List ℕ) (b : ℕ) → length l ≡ 256 * channels settings * 6 → b < 6 → length (row_of settings b l) ≡ 256 * channels settings
unfolding row_of
length-row settings l b e h = length-piece (256 * channels settings) b l (omega (arith, within (256 * channels settings) b 6 h))

-- ---- a whole buffer

-- what is within the front of a list is within the list
part-of-front : (n i k : ℕ) (l : List ℕ) → i + k ≤ n → take k (drop i (take n l)) ≡ take k (drop i l)
part-of-front n zero k l h = take-take k n l (omega arith)
part-of-front zero (suc i) k l h = absurd (omega arith)
part-of-front (suc n) (suc i) k [] h = refl
part-of-front (suc n) (suc i) k (x ∷ l) h = part-of-front n i k l (omega arith)

-- a channel's part starts at 256 × (C × block + channel) (document 01, "The track sheet")
pub part-starts : (settings : Settings) (l : List ℕ) (b c : ℕ) → c < channels settings → piece 256 c (row_of settings b l) ≡ take 256 (drop (part_start (channels settings) b c) l)
unfolding row_of piece
part-starts settings l b c h =
    let n = channels settings in
    let start : 256 * n * b + 256 * c ≡ 256 * (n * b + c) = omega (arith, mul_assoc 256 n b, mul-add 256 (n * b) c) in
    part-of-front (256 * n) (256 * c) 256 (drop (256 * n * b) l) (within 256 c n h)
    ∙ ap (take 256) (drop-drop (256 * c) (256 * n * b) l ∙ ap (λ (k : ℕ). drop k l) start)

-- two buffers whose blocks are the same as they are compared
module _ (settings : Settings) (l other : List ℕ) (under : LegalSettings settings) (long : length l ≡ 256 * channels settings * 6)
    (long' : length other ≡ 256 * channels settings * 6)
    (e : joined 6 (λ b. clean_row settings (row_of settings b l)) ≡ joined 6 (λ b. clean_row settings (row_of settings b other))) where
  clean-row-of : (m : List ℕ) → length m ≡ 256 * channels settings * 6 → (b : ℕ) → b < 6
      → piece (256 * channels settings) b (joined 6 (λ j. clean_row settings (row_of settings j m))) ≡ clean_row settings (row_of settings b m)
  clean-row-of m n b h =
      piece-joined (256 * channels settings) (λ j. clean_row settings (row_of settings j m)) 6 b
      (λ j k. length-clean_row settings under (row_of settings j m) (length-row settings m j n k)) h

  clean-part-of : (m : List ℕ) → length m ≡ 256 * channels settings * 6 → (b c : ℕ) → b < 6 → c < channels settings
      → take (end_at settings c) (piece 256 c (clean_row settings (row_of settings b m))) ≡ take (end_at settings c) (piece 256 c (row_of settings b m))
  clean-part-of m n b c h k =
      let row = row_of settings b m in
      let whole = length-row settings m b n h in
      ap (take (end_at settings c)) (piece-clean settings under row whole c k) ∙ take-clean (end_at settings c) (piece 256 c row) (end-inside settings under row whole c k)

  pub same-below-ends : SameBelowEnds settings l other
  same-below-ends =
      record {
        part = λ b c h k.
            let row = sym (clean-row-of l long b h) ∙ ap (piece (256 * channels settings) b) e ∙ clean-row-of other long' b h in
            sym (clean-part-of l long b c h k) ∙ ap (λ (r : List ℕ). take (end_at settings c) (piece 256 c r)) row ∙ clean-part-of other long' b c h k;
      }
