-- A block has at most 256 baps for each channel, and the counts of an accepted call are the lengths of the blocks' streams, whatever the
-- codes are.
use Rattle.std.specs.Prelude.{◌≡◌, List, ℕ, zero, suc, ◌*◌, ◌≤◌, ◌<◌, eqb, length, get_or, Result, Ok, Err}
use Rattle.std.proofs.Common.{sym, ◌∙◌, mul-suc, arith, length-append, length-take}
use Rattle.bits.specs.Answer.{checked}
use Rattle.bits.specs.Parts.{joined, tab}
use Rattle.bits.specs.PartsLaws.{get_or-tab}
use Rattle.bits.specs.declared.refusal.Refusal.{Refusal}
use Rattle.bits.specs.Tests.{by_bool}
use Rattle.mantissas.specs.Blocks.{part_baps, block_baps, blocks_answer, total_answer}
use Rattle.mantissas.specs.Count.{length-stream}
use Rattle.mantissas.specs.Inner.{Coded}
use Rattle.mantissas.specs.Stream.{baps_fit, stream, bit_count}
use Rattle.sheet.specs.Layout.{buffer_length}
use Rattle.sheet.specs.LegalSettings.{LegalSettings}
use Rattle.sheet.specs.Settings.{settings_of, channels}
use Rattle.sheet.proofs.SettingsLaws.{end-bounds}
use Rattle.sheet.specs.Sheet.{check_of}
use Rattle.sheet.specs.declared.settings.Settings.{Settings}

-- parts of at most z entries each
pub joined-most : {A : Type 0} (z : ℕ) (f : ℕ → List A) (k : ℕ) → ((i : ℕ) → i < k → length (f i) ≤ z) → length (joined k f) ≤ z * k
unfolding joined
joined-most z f zero h = omega arith
joined-most z f (suc k) h = rw (length-append, mul-suc) (omega (arith, joined-most z f k (λ i l. h i (omega arith)), h k (omega arith)))

-- a block
pub block-most : {settings : Settings} (bap : List ℕ) (block : ℕ) → LegalSettings settings → length (block_baps settings bap block) ≤ 256 * channels settings
unfolding block_baps part_baps
block-most {settings} bap block under =
    joined-most 256 _ (channels settings) (λ c l. rw length-take (omega (arith, end-bounds under c l)))

-- with the settings known
pub blocks-are-lengths : (settings : Settings) (bap : List ℕ) (block : ℕ) (cs counts : List ℕ) → blocks_answer settings bap ≡ Ok counts
    → block < 6 → Coded (block_baps settings bap block) cs
    → get_or counts block 0 ≡ length (stream (block_baps settings bap block) cs)
unfolding blocks_answer
blocks-are-lengths settings bap block cs counts accepted h c =
    by_bool (eqb (length bap) (buffer_length (channels settings)))
    (λ e.
    by_bool (baps_fit (joined 6 (block_baps settings bap)))
    (λ f.
    let z = rw (e, f) at accepted in
    let q : tab 6 (λ b. bit_count (block_baps settings bap b)) ≡ counts = cc in
    rw (← q) (get_or-tab 6 (λ b. bit_count (block_baps settings bap b)) block h ∙ sym (length-stream c)))
    (λ f. let z = rw (e, f) at accepted in cc))
    (λ e. let z = rw e at accepted in cc)

-- under a sheet
pub counts-are-lengths : (sheet bap : List ℕ) (block : ℕ) (cs counts : List ℕ) → total_answer sheet bap ≡ Ok counts → block < 6
    → Coded (block_baps (settings_of sheet) bap block) cs
    → get_or counts block 0 ≡ length (stream (block_baps (settings_of sheet) bap block) cs)
unfolding total_answer
counts-are-lengths sheet bap block cs counts accepted h c = go (check_of sheet) accepted
  where
    go : (found : Result Unit Refusal) → checked found (blocks_answer (settings_of sheet) bap) ≡ Ok counts
        → get_or counts block 0 ≡ length (stream (block_baps (settings_of sheet) bap block) cs)
    go (Ok _) e = blocks-are-lengths (settings_of sheet) bap block cs counts e h c
    go (Err k) e = cc

-- a sheet's fault is answered as the check finds it, where the buffer has another length too
pub total-refused : (sheet bap : List ℕ) (k : Refusal) → check_of sheet ≡ Err k → total_answer sheet bap ≡ Err k
unfolding total_answer
total-refused sheet bap k e = rw e
