-- An allocation that is made: an accepted sheet's settings hold what stands among its bytes.
use Rattle.std.specs.Prelude.{◌≡◌, ℕ, ◌<◌, true, List, Result, Ok, length, ltb}
use Rattle.std.proofs.Common.{◌∙◌, sym, ap, arith}
use borrow.Author.Tests.{ltb-true}
use Rattle.allocation.specs.Allocation.{answer_of, left_in}
use Rattle.bits.specs.declared.refusal.Refusal.{Refusal}
use Rattle.sheet.proofs.CauseLaws.{beside-accepted}
use Rattle.sheet.proofs.Laws.{legal-sheet}
use Rattle.sheet.proofs.SettingsLaws.{settings-common, settings-record}
use Rattle.sheet.specs.Common.{common_of, channels_of}
use Rattle.sheet.specs.Record.{record_of}
use Rattle.sheet.specs.Settings.{settings_of, record_at, end_at}
use Rattle.sheet.specs.Sheet.{check_of, check_beside}
use Rattle.sheet.specs.declared.common_part.Common.{Common}
use Rattle.sheet.specs.declared.record.ChannelRecord.{ChannelRecord}
use Rattle.host.specs.Entries.{allocation_check, allocation_answer, allocation_left}

-- the check, with the number of channels that the sheet says
pub passed : (sheet : List ℕ) (channel channels : ℕ) (common : Common) (answer : Result (Unit {0}) Refusal) → common ≡ common_of sheet → channels ≡ channels_of common
    → answer ≡ check_beside (ltb channel channels) sheet → answer ≡ allocation_check sheet channel
passed sheet channel channels common answer p q e = e ∙ ap (λ (n : ℕ). check_beside (ltb channel n) sheet) (q ∙ ap channels_of p)

module _ (sheet : List ℕ) (channel : ℕ) (exp bap : List ℕ) (common : Common) (chosen : ChannelRecord) (end : ℕ)
    (accepted : allocation_check sheet channel ≡ Ok tt) (p : common ≡ common_of sheet) (q : chosen ≡ record_of sheet channel) (w : end ≡ chosen.end) where
  both : (ltb channel (channels_of (common_of sheet)) ≡ true) × (check_of sheet ≡ Ok tt)
  both = beside-accepted sheet (ltb channel (channels_of (common_of sheet))) accepted

  same : common ≡ (settings_of sheet).common
  same = p ∙ sym (settings-common sheet both.1)

  is : chosen ≡ record_at (settings_of sheet) channel
  is =
      let few : channel < 6 = omega (arith, ltb-true channel (channels_of (common_of sheet)) both.0, (legal-sheet sheet both.1).common.channels-most) in
      q ∙ sym (settings-record sheet both.1 channel few)

  pub called-answer : (answer : Result (Unit {0}) Refusal) → answer ≡ answer_of common chosen.codes end exp (length bap) → answer ≡ allocation_answer sheet channel exp (length bap)
  unfolding allocation_answer end_at
  called-answer answer e = rw accepted (rw (w, same, is) at e)

  pub called-left : (bap' : List ℕ) → bap' ≡ left_in common chosen.codes end exp bap → bap' ≡ allocation_left sheet channel exp bap
  unfolding allocation_left end_at
  called-left bap' e = rw accepted (rw (w, same, is) at e)
