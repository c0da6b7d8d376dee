-- How the code reads a frame: how many bits there can be, what holds from block to
-- block, and what a block's reading and the whole reading come to.
use Rattle.std.specs.Prelude.{ℕ, ◌+◌, ◌*◌, ◌≤◌, ◌≡◌, Bool, List, Result, Ok, MatchResult, length}
use Rattle.bits.specs.Read.{from}
use Rattle.bits.specs.Reading.{Outcome, ok, fault}
use Rattle.bits.specs.declared.refusal.Refusal.{Refusal}
use Rattle.sheet.specs.Settings.{channels}
use Rattle.sheet.specs.Sizes.{most_channels, most_row}
use Rattle.sheet.specs.declared.settings.Settings.{Settings}
use Rattle.frame.specs.Answers.{reading_of, exps_read, bap_read, codes_read, read_into}
use Rattle.frame.specs.Body.{bap_row}
use Rattle.frame.specs.Reader.{Frame, grown, read_block}
use Rattle.frame.specs.declared.answer.BodyBits.{BodyBits}
use Rattle.frame_rows.specs.Inner.{LowRow}
use Rattle.frame_reader.specs.declared.block.BlockEnd.{BlockEnd}

-- ---- how many bits there can be, so that positions fit

-- the most of a set: 4, then 84 groups of 7 (end 253, D15)
abbrev pub most_set : ℕ
most_set = 4 + 7 * 84

-- of the sets of a block: one for each channel
abbrev pub most_sets : ℕ
most_sets = most_channels * most_set

-- of a block: its sets, then at most 16 bits for each code of a row
abbrev pub most_block : ℕ
most_block = most_sets + 16 * most_row

-- ---- a block

-- what holds when block b begins: exponents of at most 24, and their allocation once a block was read
pub record HeldRows (settings : Settings) (b : ℕ) (row bap : List ℕ) : Type 0 where
  pub row-long : length row ≡ 256 * channels settings
  pub bap-long : length bap ≡ 256 * channels settings
  pub low : LowRow settings row
  pub kept : (b ≡ 0 → ⊥) → bap ≡ bap_row settings row

-- block b was read at pos, from any state whose row is `old`
pub record BlockRead (settings : Settings) (b : ℕ) (old : List ℕ) (bits : List Bool) (pos : ℕ) (row bap codes : List ℕ) (end : BlockEnd) : Type 0 where
  pub is : (s : Frame) → s.row ≡ old → read_block settings b s (from pos bits) ≡ ok (grown s row bap codes end.sets end.stream) (from end.pos bits)
  pub rows : HeldRows settings (b + 1) row bap
  pub within : end.pos ≤ length bits
  pub near : end.pos ≤ pos + most_block

-- or it has a fault
pub record BlockFault (settings : Settings) (b : ℕ) (old : List ℕ) (bits : List Bool) (pos : ℕ) (k : Refusal) : Type 0 where
  pub is : (s : Frame) → s.row ≡ old → read_block settings b s (from pos bits) ≡ fault k

abbrev pub CameBlock : Settings → ℕ → List ℕ → List Bool → ℕ → List ℕ → List ℕ → List ℕ → Result BlockEnd Refusal → Type 0
CameBlock settings b old bits pos row bap codes r = MatchResult r (BlockRead settings b old bits pos row bap codes) (BlockFault settings b old bits pos)

-- ---- the six blocks

-- buffers for exponents, bap and codes: each of six rows
pub record SixRows (settings : Settings) (exps bap codes : List ℕ) : Type 0 where
  pub exps-long : length exps ≡ 256 * channels settings * 6
  pub bap-long : length bap ≡ 256 * channels settings * 6
  pub codes-long : length codes ≡ 256 * channels settings * 6

-- the whole reading where there was no fault: its answer, and what the buffers hold
pub record FrameRead (outcome : Outcome Frame) (bits : List Bool) (exps bap codes : List ℕ) (read : BodyBits) : Type 0 where
  pub answer : Ok read ≡ reading_of bits outcome
  pub exps-read : (n : ℕ) → exps ≡ read_into exps_read n outcome
  pub bap-read : (n : ℕ) → bap ≡ read_into bap_read n outcome
  pub codes-read : (n : ℕ) → codes ≡ read_into codes_read n outcome

abbrev pub CameFrame : Outcome Frame → List Bool → List ℕ → List ℕ → List ℕ → Result BodyBits Refusal → Type 0
CameFrame outcome bits exps bap codes r = MatchResult r (FrameRead outcome bits exps bap codes) (λ k. outcome ≡ fault k)
