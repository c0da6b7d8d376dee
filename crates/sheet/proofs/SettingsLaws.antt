-- The settings of an accepted sheet: its records by value, as they stand; legal; and, written out, the sheet, so that equal settings are equal
-- bytes (document 02, W1).
use Rattle.std.specs.Prelude.{ℕ, ◌≤◌, ◌<◌, ◌≡◌, Ok, length, take}
use Rattle.std.proofs.Math.Path.{refl, sym, ap}
use Rattle.std.proofs.Common.{◌∙◌, arith, subst, take_all}
use mathlib.Core.List.{List, [], map}
use Rattle.std.proofs.Math.Decide.{dec_lt}
use Rattle.std.proofs.Math.ListN.{get_or, get_or-map, get_or-eq_default}
use Rattle.std.proofs.lemmas.List.{length-map}
use Rattle.bits.specs.Bytes.{Bytes}
use Rattle.bits.specs.PartsLaws.{tab-cong, tab-list}
use Rattle.sheet.specs.declared.record.ChannelRecord.{ChannelRecord}
use Rattle.sheet.specs.declared.settings.Settings.{Settings}
use Rattle.sheet.specs.Grammar.{records_of}
use Rattle.sheet.specs.Common.{common_of, channels_of}
use Rattle.sheet.specs.Record.{six_of, channel_record, record_bytes, record_of}
use Rattle.elements.specs.declared.set.BlockSet.{BlockSet}
use Rattle.elements.specs.declared.set.ExponentSet.TheVariants.{Reuse}
use Rattle.sheet.specs.RecordLaws.{six-at}
use Rattle.sheet.specs.Sheet.{check_of}
use Rattle.sheet.specs.Settings.{record_numbered, settings_of, channels, no_record, record_at, end_at, strategies_of, set_at}
use Rattle.sheet.specs.Sizes.{most_channels}
use Rattle.sheet.specs.Legal.{EndBounds, LegalEnd, LegalRecord}
use Rattle.sheet.specs.LegalSettings.{LegalSettings, ChannelCount, ChannelEnd}
use Rattle.sheet.specs.OrderLaws.{of_number, none-past}
use Rattle.sheet.proofs.Laws.{structure-tests, range-tests, records-numbered, legal-sheet, reuses, first_block}
use Rattle.sheet.specs.Written.{sheet_written}
use Rattle.sheet.specs.WrittenLaws.{written-again}

-- the set of each channel's block is the one that its record holds
pub set-held : (settings : Settings) (b c : ℕ) → c < 6 → set_at settings b c ≡ (get_or (record_at settings c).blocks b reuses).set
unfolding set_at strategies_of
set-held settings b c h = ap (λ (row : List BlockSet). (get_or row b reuses).set) (six-at (λ k. (record_at settings k).blocks) [] c h)

-- how many channels legal settings have, and where each ends
module _ {settings : Settings} (under : LegalSettings settings) where
  pub channels-bounds : (1 ≤ channels settings) × (channels settings ≤ most_channels)
  unfolding channels
  channels-bounds = (under.common.channels-least, under.common.channels-most)

  -- each channel has a record
  pub record-known : (c : ℕ) → c < channels settings → LegalRecord settings.common c (record_at settings c)
  unfolding channels
  record-known c h = under.record-at c h

  pub first-known : (c : ℕ) → c < channels settings → set_at settings 0 c ≡ Reuse → ⊥
  unfolding channels
  first-known c h = under.first c h

  pub end-legal : (c : ℕ) → c < channels settings → LegalEnd settings.common c (end_at settings c)
  unfolding end_at
  end-legal c h = (record-known c h).end

  pub end-bounds : (c : ℕ) → c < channels settings → EndBounds (end_at settings c)
  end-bounds c h = (end-legal c h).bounds

  -- r is that number, and r is that end
  pub channel-count : (r : ℕ) → r ≡ channels settings → ChannelCount settings r
  channel-count r is = record { is = is; least = omega (arith, is, channels-bounds.0); most = omega (arith, is, channels-bounds.1) }

  pub channel-end : (c r : ℕ) → c < channels settings → r ≡ end_at settings c → ChannelEnd settings c r
  channel-end c r h is = record { is = is; least = omega (arith, is, (end-bounds c h).least); most = omega (arith, is, (end-bounds c h).most) }

module _ (s : List ℕ) (accepted : check_of s ≡ Ok tt) where
  -- the record with a channel's number is the one at its place; past the last there is none
  pub number-is-place : (c : ℕ) → record_numbered s c ≡ record_bytes s c
  number-is-place c = by_cases (dec_lt c (length (records_of s)))
    where
      by_cases : Dec (c < length (records_of s)) → record_numbered s c ≡ record_bytes s c
      by_cases (yes b) = ap (λ (rs : List (List ℕ)). get_or rs 0 []) (of_number (records-numbered s accepted) c c (omega arith) b)
      by_cases (no b) =
          let past : length (records_of s) ≤ c = omega (arith, b) in
          ap (λ (rs : List (List ℕ)). get_or rs 0 []) (none-past (records-numbered s accepted) c (omega (arith, (legal-sheet s accepted).one_each, past)))
          ∙ sym (get_or-eq_default (records_of s) [] past)

  -- so they are the records as they stand
  pub settings-as-they-stand : settings_of s ≡ record { common = common_of s; records = six_of (record_of s) }
  unfolding settings_of
  settings-as-they-stand =
      rw (number-is-place 0, number-is-place 1, number-is-place 2, number-is-place 3, number-is-place 4, number-is-place 5)

  pub settings-common : (settings_of s).common ≡ common_of s
  unfolding settings_of
  settings-common = refl

  pub settings-record : (c : ℕ) → c < 6 → record_at (settings_of s) c ≡ record_of s c
  unfolding record_at
  settings-record c h = ap (λ (w : Settings). get_or w.records c no_record) settings-as-they-stand ∙ six-at (record_of s) no_record c h

  -- ---- legal

  few : (c : ℕ) → c < channels_of (common_of s) → c < 6
  few c b = omega (arith, (legal-sheet s accepted).common.channels-most)

  pub settings-legal : LegalSettings (settings_of s)
  unfolding record_at
  settings-legal =
      record {
        common = rw settings-common (legal-sheet s accepted).common;
        record-at = λ c b. rw (settings-common, settings-record c (few c (rw settings-common at b))) ((legal-sheet s accepted).record_of c (rw settings-common at b));
        first = λ c b e. let h : c < channels_of (common_of s) = rw settings-common at b in
            first_block s accepted c h (sym (ap (λ (r : ChannelRecord). (get_or r.blocks 0 reuses).set) (settings-record c (few c h))) ∙ sym (set-held (settings_of s) 0 c (few c h)) ∙ e);
      }

  -- the same of the records in the order in which they stand
  pub legal-as-they-stand : LegalSettings (record { common = common_of s; records = six_of (record_of s) })
  legal-as-they-stand = subst (λ (w : Settings). LegalSettings w) settings-as-they-stand settings-legal

  -- ---- written out

  records-as-they-stand : take (channels_of (common_of s)) (settings_of s).records ≡ map channel_record (records_of s)
  records-as-they-stand =
      let n = channels_of (common_of s) in
      let values = map channel_record (records_of s) in
      let many : length values ≡ n = length-map (records_of s) channel_record ∙ (legal-sheet s accepted).one_each in
      ap (λ (w : Settings). take n w.records) settings-as-they-stand
      ∙ sym (tab-list no_record (six_of (record_of s)) n (legal-sheet s accepted).common.channels-most)
      ∙ tab-cong _ _ n (λ c b. six-at (record_of s) no_record c (few c b) ∙ sym (get_or-map channel_record (records_of s) c []))
      ∙ tab-list (channel_record []) values n (omega (arith, many))
      ∙ take_all n values (omega (arith, many))

  -- the settings of a sheet, written out, are the sheet
  pub settings-written : Bytes s → sheet_written (settings_of s) ≡ s
  settings-written bytes =
      let legal = legal-sheet s accepted in
      written-again s (settings_of s) legal.size legal.matches legal.version (bytes 1) (structure-tests s accepted).3 (range-tests s accepted).1
      settings-common records-as-they-stand

pub settings-fix-bytes : (s t : List ℕ) → Bytes s → Bytes t → check_of s ≡ Ok tt → check_of t ≡ Ok tt → settings_of s ≡ settings_of t → s ≡ t
settings-fix-bytes s t s-bytes t-bytes s-accepted t-accepted same =
    sym (settings-written s s-accepted s-bytes) ∙ ap sheet_written same ∙ settings-written t t-accepted t-bytes
