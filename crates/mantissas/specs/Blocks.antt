-- The mantissa bits of a frame's six blocks, told by a sheet and the buffer of baps (the Rust's `mantissa_bits_total_ends`, coupling off, gives their sum).
-- Groups run over the channels of a block and never into the next block (A/52 7.3.5); entries from a channel's end on are ignored.
use Rattle.std.specs.Prelude.{List, ℕ, eqb, length, take, drop, Result, Ok}
use Rattle.bits.specs.Answer.{must, checked}
use Rattle.bits.specs.Parts.{joined, tab}
use Rattle.bits.specs.declared.refusal.Refusal.{Refusal}
use Rattle.bits.specs.declared.refusal.Refusal.TheVariants as refusal
use Rattle.mantissas.specs.Stream.{baps_fit, bit_count}
use Rattle.sheet.specs.Layout.{buffer_length, part_start}
use Rattle.sheet.specs.Settings.{settings_of, channels, end_at}
use Rattle.sheet.specs.Sheet.{check_of}
use Rattle.sheet.specs.declared.settings.Settings.{Settings}

-- the baps of a channel's part below its end (document 01, "The track sheet": where a part starts)
unfoldable pub part_baps : Settings → List ℕ → ℕ → ℕ → List ℕ
part_baps settings bap block c = take (end_at settings c) (drop (part_start (channels settings) block c) bap)

-- the baps of a block, by channel number and bin (document 01, "The frame body")
unfoldable pub block_baps : Settings → List ℕ → ℕ → List ℕ
block_baps settings bap block = joined (channels settings) (part_baps settings bap block)

-- the refusals 10 and 5 of a buffer of baps, or the mantissa bits of each block
unfoldable pub blocks_answer : Settings → List ℕ → Result (List ℕ) Refusal
blocks_answer settings bap =
    must (eqb (length bap) (buffer_length (channels settings))) refusal.WrongLength
    (must (baps_fit (joined 6 (block_baps settings bap))) refusal.BadCode
    (Ok (tab 6 (λ block. bit_count (block_baps settings bap block)))))

-- `mantissa_bits_total_ends`: 1, 2 and 11 as `check_sheet` finds them, then as above
unfoldable pub total_answer : List ℕ → List ℕ → Result (List ℕ) Refusal
total_answer sheet bap = checked (check_of sheet) (blocks_answer (settings_of sheet) bap)
