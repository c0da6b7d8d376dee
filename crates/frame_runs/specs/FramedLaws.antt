-- Laws of a buffer of six blocks of C parts: its length, its rows and parts, and that it is clean where each part is.
use Rattle.std.specs.Prelude.{ℕ, ◌+◌, ◌-◌, ◌*◌, ◌≤◌, ◌<◌, List, ◌≡◌, length, take, drop}
use Rattle.std.proofs.Common.{sym, ◌∙◌, mul-add, mul_assoc, arith, take-take, drop-drop}
use Rattle.std.proofs.Math.Path.{ap}
use Rattle.std.proofs.lemmas.List.{drop-take}
use Rattle.bits.specs.Parts.{joined, piece}
use Rattle.bits.specs.PartsLaws.{joined-cong, joined_length, piece-joined, within}
use Rattle.frame.specs.Layout.{row_of, clean, clean_row, below_end, framed, cleaned}
use Rattle.sheet.specs.Layout.{part_start}
use Rattle.sheet.specs.Settings.{channels, end_at}
use Rattle.sheet.specs.declared.settings.Settings.{Settings}

module _ (settings : Settings) (part : ℕ → ℕ → List ℕ) (long : (b c : ℕ) → b < 6 → c < channels settings → length (part b c) ≡ 256) where
  length-row : (b : ℕ) → b < 6 → length (joined (channels settings) (part b)) ≡ 256 * channels settings
  length-row b hb = joined_length 256 (part b) (channels settings) (λ c l. long b c hb l)

  pub length-framed : length (framed settings part) ≡ 256 * channels settings * 6
  unfolding framed
  length-framed = joined_length (256 * channels settings) _ 6 length-row

  pub row-framed : (b : ℕ) → b < 6 → row_of settings b (framed settings part) ≡ joined (channels settings) (part b)
  unfolding framed row_of
  row-framed b hb = piece-joined (256 * channels settings) (λ j. joined (channels settings) (part j)) 6 b length-row hb

  pub part-framed : (b c : ℕ) → b < 6 → c < channels settings → piece 256 c (row_of settings b (framed settings part)) ≡ part b c
  part-framed b c hb hc = ap (piece 256 c) (row-framed b hb) ∙ piece-joined 256 (part b) (channels settings) c (λ j l. long b j hb l) hc

  module _ (kept : (b c : ℕ) → b < 6 → c < channels settings → clean (end_at settings c) (part b c) ≡ part b c) where
    pub row-framed-clean : (b : ℕ) → b < 6 → clean_row settings (row_of settings b (framed settings part)) ≡ joined (channels settings) (part b)
    unfolding clean_row
    row-framed-clean b hb = joined-cong _ (part b) (channels settings) (λ c l. ap (clean (end_at settings c)) (part-framed b c hb l) ∙ kept b c hb l)

    pub framed-clean : cleaned settings (framed settings part) ≡ framed settings part
    unfolding cleaned framed
    framed-clean = joined-cong _ _ 6 row-framed-clean

-- ---- a channel's part of a row, and of the buffer

pub below_row : (settings : Settings) (b c : ℕ) (l : List ℕ) → c < channels settings → end_at settings c ≤ 256
    → below_end settings b c l ≡ take (end_at settings c) (piece 256 c (row_of settings b l))
unfolding below_end piece row_of
below_row settings b c l hc he =
    let n = channels settings in
    let w = within 256 c n hc in
    let rest = 256 * n - 256 * c in
    let row = drop (256 * n * b) l in
    let split : 256 * n ≡ 256 * c + rest = omega (arith, w) in
    let start : 256 * n * b + 256 * c ≡ part_start n b c = rw (mul-add 256 (n * b) c, mul_assoc 256 n b) in
    sym (
    rw (ap (λ (k : ℕ). take k row) split, drop-take (256 * c) rest row, take-take 256 rest (drop (256 * c) row) (omega (arith, w)), take-take (end_at settings c) 256 (drop (256 * c) row) he, drop-drop (256 * c) (256 * n * b) l, start)
    )
