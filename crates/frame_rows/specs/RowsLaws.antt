-- Laws of rows as the code fills them: a part that is cleaned, the row that is lent, and the rows of a whole frame.
use Rattle.std.specs.Prelude.{ℕ, zero, suc, ◌+◌, ◌-◌, ◌*◌, ◌≤◌, ◌<◌, ◌≡◌, refl, List, [], ◌++◌, length, take, drop, get_or, replicate}
use Rattle.std.proofs.Common.{ap, ap₂, ◌∙◌, append-nil, length-append, length-take, length-drop, drop_of_length-le, take_at, length-take-le}
use Rattle.std.proofs.Math.Nat.{sub-zero}
use native.Mathlib.Omega.{arith}
use Rattle.std.proofs.Math.Seq.{length_front}
use Rattle.bits.specs.Parts.{joined, piece}
use Rattle.bits.specs.PartsLaws.{joined_length, piece-joined, within, front-taken, placed}
use Rattle.sheet.specs.Settings.{channels}
use Rattle.sheet.specs.LegalSettings.{ChannelCount, LegalSettings}
use Rattle.sheet.specs.Sizes.{most_channels, most_buffer}
use Rattle.sheet.specs.declared.settings.Settings.{Settings}
use Rattle.frame.specs.Body.{bap_row, baps_of}
use Rattle.frame.specs.Layout.{row_of, clean, clean_row, cleaned}
use Rattle.frame.specs.LayoutLaws.{length-row, length-bap_row, length-clean_row}
use Rattle.bits.specs.Walks.{lent-long}

-- an entry of zeros is 0, and so is what stands past them
pub zero-past : (n i : ℕ) → get_or {A = ℕ} (replicate n 0) i 0 ≡ 0
zero-past zero i = refl
zero-past (suc n) zero = refl
zero-past (suc n) (suc i) = zero-past n i

-- ---- a local array whose first n entries are lent

module _ (n : ℕ) (l ys : List ℕ) (fits : n ≤ length l) (kept : length ys ≡ length (take (n - 0) l)) where
  -- what came back is ys, and the array is as long as before
  pub back-length : length ys ≡ n
  back-length = kept ∙ rw length-take (omega arith)

  pub back_whole : length (ys ++ drop (n - 0) l) ≡ length l
  back_whole = length_front l ys (n - 0) kept

  pub back-taken : take (n - 0) (ys ++ drop (n - 0) l) ≡ ys
  back-taken = front-taken n (n - 0) l ys (sub-zero n) back-length

-- a buffer for the most channels, lent for those of a sheet
module _ (channels : ℕ) (l : List ℕ) (long : length l ≡ most_buffer) (most : channels ≤ most_channels) where
  buffer-fits : 256 * channels * 6 ≤ length l
  buffer-fits = omega arith

  pub front-lent : length (take (256 * channels * 6 - 0) l) ≡ 256 * channels * 6
  front-lent = rw length-take (omega (arith, buffer-fits))

  module _ (ys : List ℕ) (kept : length ys ≡ length (take (256 * channels * 6 - 0) l)) where
    pub front_length : length ys ≡ 256 * channels * 6
    front_length = back-length (256 * channels * 6) l ys buffer-fits kept

    pub front-room : 256 * channels * 6 ≤ length (ys ++ drop (256 * channels * 6 - 0) l)
    front-room = omega (arith, buffer-fits, back_whole (256 * channels * 6) l ys buffer-fits kept)

    pub front-filled : take (256 * channels * 6 - 0) (ys ++ drop (256 * channels * 6 - 0) l) ≡ ys
    front-filled = back-taken (256 * channels * 6) l ys buffer-fits kept

-- ---- a clean part

-- its entries below end copied, then the rest filled with 0
pub clean-made : (end : ℕ) (codes to ys zs : List ℕ) → end ≤ 256 → length codes ≡ 256 → length to ≡ 256 → ys ≡ take (end - 0) codes
    → zs ≡ replicate (length (take (256 - end) (drop end (ys ++ drop (end - 0) to)))) 0
    → placed end (256 - end) (ys ++ drop (end - 0) to) zs ≡ clean end codes
unfolding clean
clean-made end codes to ys zs most codes-long to-long copied cleared =
    let l = ys ++ drop (end - 0) to in
    let here : ys ≡ take end codes = copied ∙ ap (λ (k : ℕ). take k codes) (sub-zero end) in
    let n : length ys ≡ end = ap length here ∙ length-take-le end codes (omega arith) in
    let long : length l ≡ 256 = rw (length-append, length-drop) (omega arith) in
    let behind : length (drop end l) ≡ 256 - end = rw length-drop (omega (arith, long)) in
    let zeros : zs ≡ replicate (256 - end) 0 =
    cleared ∙ ap (λ (k : ℕ). replicate {A = ℕ} k 0) (length-take-le (256 - end) (drop end l) (omega (arith, behind))) in
    let past : length (drop end l) ≤ 256 - end = omega (arith, behind) in
    let none : drop (256 - end) (drop end l) ≡ [] = drop_of_length-le (drop end l) past in
    ap₂ (λ (x y : List ℕ). x ++ y) (take_at ys (drop (end - 0) to) end n ∙ here) (ap₂ (λ (x y : List ℕ). x ++ y) zeros none ∙ append-nil (replicate (256 - end) 0))

-- ---- the number of channels, held by value

module _ {settings : Settings} {n : ℕ} (many : ChannelCount settings n) where
  -- a channel's part lies within its row, and a row within its buffer
  pub part-inside : (c : ℕ) → c < n → (256 * c + 256 ≤ 256 * n) × (n ≤ most_channels)
  part-inside c h = (within 256 c n h, many.most)

  pub row_inside : (b : ℕ) → b < 6 → (256 * n * b + 256 * n ≤ 256 * n * 6) × (n ≤ most_channels)
  row_inside b h = (within (256 * n) b 6 h, many.most)

  pub channel-there : (c : ℕ) → c < n → c < channels settings
  channel-there c h = omega (arith, many.is)

  -- so many entries, by the number that is held
  pub row-held : {k : ℕ} → k ≡ 256 * channels settings → k ≡ 256 * n
  row-held e = omega (arith, many.is)

  pub buffer_held : {k : ℕ} → k ≡ 256 * channels settings * 6 → k ≡ 256 * n * 6
  buffer_held e = omega (arith, many.is)

  pub row-long : {A : Type 0} (b : ℕ) → b < 6 → (l : List A) → length l ≡ 256 * channels settings * 6
      → length (take (256 * n * b + 256 * n - 256 * n * b) (drop (256 * n * b) l)) ≡ 256 * channels settings
  row-long b h l long = omega (arith, lent-long (256 * n) 6 b h l (buffer_held long), many.is)

  -- the row that is lent of a buffer
  pub row-lent : (b : ℕ) (l : List ℕ) → take (256 * n * b + 256 * n - 256 * n * b) (drop (256 * n * b) l) ≡ row_of settings b l
  unfolding row_of piece
  row-lent b l =
      let all : 256 * channels settings * b + 256 * channels settings - 256 * channels settings * b ≡ 256 * channels settings = omega arith in
      rw (many.is, all)

-- ---- the rows of a whole frame

row-joined : (settings : Settings) (f : ℕ → List ℕ) (b : ℕ) → ((j : ℕ) → j < 6 → length (f j) ≡ 256 * channels settings) → b < 6 → row_of settings b (joined 6 f) ≡ f b
unfolding row_of
row-joined settings f b h l = piece-joined (256 * channels settings) f 6 b h l

pub length-baps : (settings : Settings) (exps : List ℕ) → length (baps_of settings exps) ≡ 256 * channels settings * 6
unfolding baps_of
length-baps settings exps = joined_length (256 * channels settings) _ 6 (λ b l. length-bap_row settings (row_of settings b exps))

pub row-baps : (settings : Settings) (exps : List ℕ) (b : ℕ) → b < 6 → row_of settings b (baps_of settings exps) ≡ bap_row settings (row_of settings b exps)
unfolding baps_of
row-baps settings exps b h = row-joined settings (λ j. bap_row settings (row_of settings j exps)) b (λ j l. length-bap_row settings (row_of settings j exps)) h

module _ (settings : Settings) (l : List ℕ) (under : LegalSettings settings) (long : length l ≡ 256 * channels settings * 6) where
  pub length-cleaned : length (cleaned settings l) ≡ 256 * channels settings * 6
  unfolding cleaned
  length-cleaned = joined_length (256 * channels settings) _ 6 (λ b h. length-clean_row settings under (row_of settings b l) (length-row settings l b long h))

  pub row-cleaned : (b : ℕ) → b < 6 → row_of settings b (cleaned settings l) ≡ clean_row settings (row_of settings b l)
  unfolding cleaned
  row-cleaned b h =
      row-joined settings (λ j. clean_row settings (row_of settings j l)) b (λ j k. length-clean_row settings under (row_of settings j l) (length-row settings l j long k)) h
