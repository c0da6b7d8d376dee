-- Laws of writing a sheet out: a whole record in its ranges, written out from its values, is the same bytes, and so is a sheet.
use Rattle.std.specs.Prelude.{ℕ, zero, suc, ◌+◌, ◌-◌, ◌*◌, ◌/◌, ◌%◌, ◌≤◌, ◌<◌, ◌≡◌, refl, true, length, take}
use Rattle.std.proofs.Common.{sym, ◌∙◌, arith, length-drop, take-append-drop, drop-cons, drop-drop, eqb-true}
use Rattle.std.proofs.Math.Path.{ap}
use mathlib.Core.List.{List, [], ◌∷◌, ◌++◌, map, flatten}
use Rattle.std.proofs.Math.ListN.{get_or, drop}
use Rattle.std.proofs.Math.Seq.{drop-nil}
use Rattle.bits.specs.Tests.{both}
use Rattle.bits.specs.Parts.{tab, joined, piece}
use Rattle.bits.specs.PartsLaws.{tab-list, joined-cong, pieces-all}
use Rattle.elements.specs.declared.segment.Segment.{Segment}
use Rattle.elements.specs.Strategy.{code_of_set}
use Rattle.elements.specs.declared.set.BlockSet.{BlockSet}
use Rattle.elements.specs.declared.set.ExponentSet.TheVariants.{Reuse}
use Rattle.sheet.specs.declared.common_part.Common.{Common}
use Rattle.sheet.specs.declared.record.ChannelRecord.{ChannelRecord}
use Rattle.sheet.specs.Grammar.{head_size, length_of, version_of, nseg_of, record_size, count_off, records_of, every, is_whole}
use Rattle.sheet.specs.declared.settings.Settings.{Settings}
use Rattle.sheet.specs.Common.{common_of, channels_of}
use Rattle.sheet.specs.Record.{channel_of, strategy_of, set_of, block_set, no_segment, segment_at, channel_record}
use Rattle.sheet.specs.Ranges.{record_in_range}
use Rattle.sheet.specs.RecordLaws.{six-at, eight-at}
use Rattle.sheet.specs.RangesLaws.{legal-strategies, legal-record}
use Rattle.sheet.specs.Written.{strategy_written, segment_written, record_written, rest_written, sheet_written}

-- the records, put together again, are what they were counted off from
pub records-joined : (k : ℕ) (l : List ℕ) → flatten (count_off k l) ≡ drop k l
unfolding flatten
records-joined k [] = sym (drop-nil k)
records-joined zero (x ∷ xs) =
    let size = record_size (x ∷ xs) in
    let e : suc (size - 1) ≡ size = omega arith in
    ap (λ (rest : List ℕ). take size (x ∷ xs) ++ rest) (records-joined (size - 1) xs ∙ ap (λ (n : ℕ). drop n (x ∷ xs)) e) ∙ take-append-drop size (x ∷ xs)
records-joined (suc k) (x ∷ xs) = records-joined k xs

-- a list by its first entries and the rest
by_entries : (n : ℕ) (l : List ℕ) → n ≤ length l → tab n (λ i. get_or l i 0) ++ drop n l ≡ l
by_entries n l h = ap (λ (front : List ℕ). front ++ drop n l) (tab-list 0 l n h) ∙ take-append-drop n l

three-at : (l : List ℕ) (k a b : ℕ) → suc k ≡ a → suc a ≡ b → b < length l → take 3 (drop k l) ≡ get_or l k 0 ∷ get_or l a 0 ∷ get_or l b 0 ∷ []
three-at l k a b e f h =
    let third : drop (suc a) l ≡ get_or l b 0 ∷ drop (suc b) l = ap (λ (n : ℕ). drop n l) f ∙ drop-cons l b 0 h in
    let second : drop (suc k) l ≡ get_or l a 0 ∷ get_or l b 0 ∷ drop (suc b) l =
    ap (λ (n : ℕ). drop n l) e ∙ drop-cons l a 0 (omega arith) ∙ ap (λ (t : List ℕ). get_or l a 0 ∷ t) third
    in
    ap (take 3) (drop-cons l k 0 (omega arith) ∙ ap (λ (t : List ℕ). get_or l k 0 ∷ t) second)

eleven : (r : List ℕ) → 11 ≤ length r
    → get_or r 0 0 ∷ get_or r 1 0 ∷ get_or r 2 0 ∷ get_or r 3 0 ∷ get_or r 4 0 ∷ get_or r 5 0 ∷ get_or r 6 0 ∷ get_or r 7 0 ∷ get_or r 8 0 ∷ get_or r 9 0 ∷ get_or r 10 0 ∷ drop 11 r ≡ r
unfolding tab joined
eleven r h = by_entries 11 r h

twelve : (s : List ℕ) → 12 ≤ length s
    → get_or s 0 0 ∷ get_or s 1 0 ∷ get_or s 2 0 ∷ get_or s 3 0 ∷ get_or s 4 0 ∷ get_or s 5 0 ∷ get_or s 6 0 ∷ get_or s 7 0 ∷ get_or s 8 0 ∷ get_or s 9 0 ∷ get_or s 10 0 ∷ get_or s 11 0 ∷ drop 12 s ≡ s
unfolding tab joined
twelve s h = by_entries 12 s h

number-again : (x : ℕ) → x ≤ 3 → code_of_set (set_of x) ≡ x
number-again zero h = refl
number-again (suc zero) h = refl
number-again (suc (suc zero)) h = refl
number-again (suc (suc (suc zero))) h = refl
number-again (suc (suc (suc (suc x)))) h = absurd (omega arith)

-- a whole record in its ranges
module _ (common : Common) (r : List ℕ) (whole : length r ≡ record_size r) (held : record_in_range common r ≡ true) where
  few : nseg_of r ≤ 8
  few = (legal-record common (channel_of r) r whole held refl).nseg

  strategy-again : (block : ℕ) → block < 6 → strategy_written (channel_record r) block ≡ strategy_of r block
  unfolding strategy_written
  strategy-again block b =
      ap (λ (k : BlockSet). code_of_set k.set) (six-at (λ block. block_set (strategy_of r block)) (record { set = Reuse }) block b)
      ∙ number-again (strategy_of r block) ((legal-strategies common (channel_of r) r whole held refl).most block b)

  segment-again : (i : ℕ) → i < nseg_of r → segment_written (channel_record r) i ≡ piece 3 i (drop 11 r)
  unfolding segment_written piece
  segment-again i b =
      let eight : i < 8 = omega (arith, few) in
      ap (λ (s : Segment). s.offst ∷ s.len ∷ s.ba ∷ []) (eight-at (segment_at r) no_segment i eight)
      ∙ rw (drop-drop (3 * i) 11 r) (sym (three-at r (11 + 3 * i) (12 + 3 * i) (13 + 3 * i) (omega arith) (omega arith) (omega arith)))

  segments-again : joined (nseg_of r) (segment_written (channel_record r)) ≡ drop 11 r
  segments-again =
      joined-cong (segment_written (channel_record r)) (λ i. piece 3 i (drop 11 r)) (nseg_of r) segment-again
      ∙ pieces-all 3 (drop 11 r) (nseg_of r) (length-drop 11 r ∙ omega arith)

  pub record-again : record_written (channel_record r) ≡ r
  unfolding record_written
  record-again =
      rw (segments-again, strategy-again 0 (omega arith), strategy-again 1 (omega arith), strategy-again 2 (omega arith))
      (rw (strategy-again 3 (omega arith), strategy-again 4 (omega arith), strategy-again 5 (omega arith)) (eleven r (omega arith)))

pub records-again : (common : Common) (rs : List (List ℕ)) → every is_whole rs ≡ true → every (record_in_range common) rs ≡ true
    → flatten (map record_written (map channel_record rs)) ≡ flatten rs
unfolding flatten
records-again common [] w h = refl
records-again common (r ∷ rs) w h =
    let whole = both (is_whole r) (every is_whole rs) w in
    let held = both (record_in_range common r) (every (record_in_range common) rs) h in
    rw (record-again common r (eqb-true _ _ whole.0) held.0, records-again common rs whole.1 held.1)

-- two bytes, and the number that they make
high_byte : (n a b : ℕ) → n ≡ 256 * a + b → b < 256 → n / 256 ≡ a
high_byte n a b e h = omega arith

low_byte : (n a b : ℕ) → n ≡ 256 * a + b → b < 256 → n % 256 ≡ b
low_byte n a b e h = omega arith

module _ (s : List ℕ) (settings : Settings) (size : head_size ≤ length s) (matches : length s ≡ 2 + length_of s) (version : version_of s ≡ 1) (low : get_or s 1 0 < 256)
    (whole : every is_whole (records_of s) ≡ true) (held : every (record_in_range (common_of s)) (records_of s) ≡ true) (common : settings.common ≡ common_of s)
    (same : take (channels_of (common_of s)) settings.records ≡ map channel_record (records_of s)) where
  joined-again : flatten (map record_written (take (channels_of (common_of s)) settings.records)) ≡ drop 12 s
  joined-again = ap (λ (l : List ChannelRecord). flatten (map record_written l)) same ∙ records-again (common_of s) (records_of s) whole held ∙ records-joined 0 (drop 12 s)

  rest-again : rest_written settings ≡ drop 2 s
  unfolding rest_written
  rest-again = rw (common, joined-again, ← version) (ap (drop 2) (twelve s size))

  rest-length : length (rest_written settings) ≡ length_of s
  rest-length = ap length rest-again ∙ length-drop 2 s ∙ omega arith

  pub written-again : sheet_written settings ≡ s
  unfolding sheet_written
  written-again =
      rw (high_byte _ (get_or s 0 0) (get_or s 1 0) rest-length low, low_byte _ (get_or s 0 0) (get_or s 1 0) rest-length low, rest-again)
      (ap (λ (l : List ℕ). get_or s 0 0 ∷ get_or s 1 0 ∷ drop 2 l) (sym (twelve s size)) ∙ twelve s size)
