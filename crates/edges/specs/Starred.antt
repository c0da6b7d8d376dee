-- The starred cases of document 01, "Edges", as one list: what the definitions of the calls answer, and what the papers publish (document 02, W4,
-- changes the case with a short last span).
-- A call's case is its whole answer: what it gives or why it was turned back, and the buffer that the call leaves.
use Rattle.std.specs.Prelude.{ℕ, ◌≡◌, refl, Bool, true, false, List, [], ◌∷◌, map, eqb, ℤ, pos, neg_ℤ, negsuc, length, Result, Ok}
use Rattle.std.specs.Float.{fin}
use Rattle.std.specs.Float.Ieee.{of_bits, mul, lt, of_int}
use Rattle.bits.specs.Answer.{stored, output_of}
use Rattle.bits.specs.Bytes.{bytes_from, bytes_of, after}
use Rattle.bits.specs.Field.{bit_val}
use Rattle.bits.specs.declared.refusal.Refusal.{Refusal}
use Rattle.excitation.specs.BandPsd.{logadd}
use Rattle.masking.specs.Delta.{delta}
use Rattle.mantissas.specs.Calls.{one_length, write_answer}
use Rattle.mantissas.specs.Stream.{coded, stream}
use Rattle.quantiser.specs.Code.{code_of}
use Rattle.quantiser.specs.Code.{quantised as mantissaAnswer}
use Rattle.shaping.specs.Extract.{extracted}
use Rattle.shaping.specs.Groups.{groups_answer}
use Rattle.shaping.specs.D15.{backward, forward, limited}
use Rattle.shaping.specs.Passes.{preprocess_check, preprocessed, quantise_check, quantised}
use Rattle.shaping.specs.Spans.{least, leasts, span_leasts, copies, spread, shared, spanned}
use Rattle.tables.specs.Entry.{entry}
use Rattle.tables.specs.Masking.{latab}
use Rattle.tables.specs.Quantizer.{quantization_bits}

pub data Case : Type 0 where
  -- a number of the allocation, which has no call of its own
  number : ℤ → Case
  -- the value, or the refusal
  answers : Result ℕ Refusal → Case
  -- whether it was turned back, and the exponents that are left
  leaves : Result Unit Refusal → List ℕ → Case
  -- the number of bits or the refusal, the bits, and the output that is left
  writes : Result ℕ Refusal → List Bool → List ℕ → Case

abbrev pub preprocess : List ℕ → Case
preprocess exp = leaves (preprocess_check exp) (preprocessed exp)

abbrev pub quantise : ℕ → List ℕ → Case
quantise span exp = leaves (quantise_check span exp) (quantised span exp)

abbrev pub groups : ℕ → ℕ → Case
groups end span = answers (groups_answer end span)

abbrev pub write : List ℕ → List ℕ → List ℕ → Case
write out bap codes =
    let r = write_answer (length out) bap codes in
    writes r (stream bap codes) (output_of r (stream bap codes) out)

-- bits as the paper prints them
abbrev pub bits : List ℕ → List Bool
bits = map (λ b. eqb b 1)

-- an entry for each line of the paper
abbrev pub computed : List (List Case)
computed =
    -- 24 seven times; 9, 0, 9; 20; empty
    map preprocess ((24 ∷ 24 ∷ 24 ∷ 24 ∷ 24 ∷ 24 ∷ 24 ∷ []) ∷ (9 ∷ 0 ∷ 9 ∷ []) ∷ (20 ∷ []) ∷ [] ∷ [])
    -- span 2: whole spans, and a short last span
    ∷ map (quantise 2) ((6 ∷ 6 ∷ 6 ∷ 4 ∷ 2 ∷ []) ∷ (6 ∷ 6 ∷ 6 ∷ 4 ∷ 2 ∷ 2 ∷ []) ∷ [])
    -- groups for D15, D25, D45 at the ends 253 and 40
    ∷ (groups 253 1 ∷ groups 253 2 ∷ groups 253 4 ∷ groups 40 1 ∷ groups 40 2 ∷ groups 40 4 ∷ [])
    -- logadd (0, 0), (0, 2), (3072, 0)
    ∷ map (λ n. number (pos n)) (logadd 0 0 ∷ logadd 0 2 ∷ logadd 3072 0 ∷ [])
    -- ba 0, 3, 4, 7
    ∷ map (λ ba. number (delta ba)) (0 ∷ 3 ∷ 4 ∷ 7 ∷ [])
    -- bap 6, exponent 0: -1, 31/32, -1/32
    ∷ map (λ x. answers (mantissaAnswer x 0 6)) (fin true 1 (pos 0) ∷ fin false 31 (negsuc 4) ∷ fin true 1 (negsuc 4) ∷ [])
    -- (1,2), (6,3), (1,0), (1,1), and (4,10) alone, each into an output of ones with a byte to spare
    ∷ (write (255 ∷ 255 ∷ 255 ∷ []) (1 ∷ 6 ∷ 1 ∷ 1 ∷ []) (2 ∷ 3 ∷ 0 ∷ 1 ∷ [])
    ∷ write (255 ∷ 255 ∷ []) (4 ∷ []) (10 ∷ []) ∷ [])
    -- 2^-10 - 2^-34; 2^-25; 1
    ∷ map (λ x. answers (extracted x)) (fin false 16777215 (negsuc 33) ∷ fin false 1 (negsuc 24) ∷ fin false 1 (pos 0) ∷ [])
    ∷ []

abbrev pub published : List (List Case)
published =
    map (leaves (Ok tt)) ((15 ∷ 17 ∷ 19 ∷ 21 ∷ 23 ∷ 24 ∷ 24 ∷ []) ∷ (2 ∷ 0 ∷ 2 ∷ []) ∷ (15 ∷ []) ∷ [] ∷ [])
    ∷ map (leaves (Ok tt)) ((6 ∷ 4 ∷ 4 ∷ 2 ∷ 2 ∷ []) ∷ (6 ∷ 4 ∷ 4 ∷ 2 ∷ 2 ∷ 2 ∷ []) ∷ [])
    ∷ map (λ n. answers (Ok n)) (84 ∷ 42 ∷ 21 ∷ 13 ∷ 7 ∷ 4 ∷ [])
    ∷ map (λ n. number (pos n)) (64 ∷ 65 ∷ 3072 ∷ [])
    ∷ map number (neg_ℤ (pos 512) ∷ neg_ℤ (pos 128) ∷ pos 128 ∷ pos 512 ∷ [])
    ∷ map (λ n. answers (Ok n)) (16 ∷ 15 ∷ 31 ∷ [])
    -- zero bits to the byte: 10011000 11000000 and 11011100
    ∷ (writes (Ok 10) (bits (1 ∷ 0 ∷ 0 ∷ 1 ∷ 1 ∷ 0 ∷ 0 ∷ 0 ∷ 1 ∷ 1 ∷ [])) (152 ∷ 192 ∷ 255 ∷ [])
    ∷ writes (Ok 7) (bits (1 ∷ 1 ∷ 0 ∷ 1 ∷ 1 ∷ 1 ∷ 0 ∷ [])) (220 ∷ 255 ∷ []) ∷ [])
    ∷ map (λ n. answers (Ok n)) (10 ∷ 24 ∷ 0 ∷ [])
    ∷ []

pub starred-cases : computed ≡ published
unfolding preprocessed limited backward forward quantised spanned shared spread copies span_leasts leasts least groups_answer logadd latab entry delta mantissaAnswer code_of mul lt of_int of_bits quantization_bits one_length coded write_answer stream output_of stored bytes_of bytes_from bit_val after extracted
starred-cases = refl
