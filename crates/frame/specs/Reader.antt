-- How a body is read (document 01, "The frame body", faults 7 to 9 as met in bit order): the sets of a block, then, by the allocation
-- that these exponents give, its mantissas. What is read has 0 from each end on.
use Rattle.std.specs.Prelude.{ℕ, zero, suc, ◌-◌, ◌*◌, Bool, List, [], ◌∷◌, ◌++◌, length, replicate}
use Rattle.bits.specs.Parts.{piece}
use Rattle.bits.specs.Reading.{Outcome, ok, then, steps, gather}
use Rattle.elements.specs.declared.set.ExponentSet.{ExponentSet}
use Rattle.elements.specs.declared.set.ExponentSet.TheVariants.{Reuse, New}
use Rattle.elements.specs.Strategy.{grpsize}
use Rattle.exponents.specs.Reading.{read_exponents}
use Rattle.mantissas.specs.Stream.{read_stream}
use Rattle.sheet.specs.Settings.{channels, end_at, set_at}
use Rattle.sheet.specs.declared.settings.Settings.{Settings}
use Rattle.frame.specs.Layout.{row_of, clean_row}
use Rattle.frame.specs.Body.{bap_row}

-- a channel's exponents in a block: a new set is read, reuse repeats the part of the block before (`old`)
unfoldable pub read_part : ExponentSet → ℕ → List ℕ → List Bool → Outcome (List ℕ)
read_part Reuse end old bits = ok old bits
read_part (New strategy) end old bits = then (read_exponents end (grpsize strategy) bits) (λ exps rest. ok (exps ++ replicate (256 - end) 0) rest)

-- the exponents of block b, after the row `old` of the block before
unfoldable pub read_sets : Settings → ℕ → List ℕ → List Bool → Outcome (List ℕ)
read_sets settings b old bits = gather (λ c. read_part (set_at settings b c) (end_at settings c) (piece 256 c old)) (channels settings) bits

-- what the blocks so far gave: three buffers and the counts; `row` is the row of exponents that a reuse block repeats
pub record Frame : Type 0 where
  pub exps : List ℕ
  pub bap : List ℕ
  pub codes : List ℕ
  pub row : List ℕ
  pub exponent_bits : List ℕ
  pub mantissa_bits : List ℕ

-- one block more: its exponents, its bap, its codes, and how many bits of each kind it took
unfoldable pub grown : Frame → List ℕ → List ℕ → List ℕ → ℕ → ℕ → Frame
grown s row bap codes e m =
    record {
      exps = s.exps ++ row;
      bap = s.bap ++ bap;
      codes = s.codes ++ codes;
      row = row;
      exponent_bits = s.exponent_bits ++ (e ∷ []);
      mantissa_bits = s.mantissa_bits ++ (m ∷ []);
    }

-- block b: its sets, then its mantissas by the bap that is worked out from the exponents just read
unfoldable pub read_block : Settings → ℕ → Frame → List Bool → Outcome Frame
read_block settings b s bits =
    then (read_sets settings b s.row bits) (λ row r.
    then (read_stream (bap_row settings row) r) (λ codes u.
    ok (grown s row (bap_row settings row) codes (length bits - length r) (length r - length u)) u))

-- before block 0: nothing is read
unfoldable pub nothing : Settings → Frame
nothing settings = record { exps = []; bap = []; codes = []; row = replicate (256 * channels settings) 0; exponent_bits = []; mantissa_bits = [] }

-- the six blocks
unfoldable pub read_frame : Settings → List Bool → Outcome Frame
read_frame settings bits = steps (read_block settings) 6 (nothing settings) bits

-- the exponents that a reuse block b repeats: those of the block before, below each end; block 0 is never reuse and has zeros there
unfoldable pub earlier : Settings → List ℕ → ℕ → List ℕ
earlier settings exps zero = replicate (256 * channels settings) 0
earlier settings exps (suc b) = clean_row settings (row_of settings b exps)
