-- DEMAND 3, sentence by sentence: unique reading, reading whatever follows, the number of bits read, and the formula. A frame is the exponents
-- and codes of all six blocks below each end, under a sheet that is not refused (`FrameUnder`, Calls.antt); its bits are `body_bits`, without the
-- zero bits to the byte.
use Rattle.std.specs.Prelude.{ℕ, ◌≡◌, Bool, List, [], ◌++◌, Result, length}
use Rattle.std.proofs.Common.{sym, ap, ◌∙◌, append-nil}
use Rattle.bits.specs.Field.{bits_of}
use Rattle.bits.specs.ReadingLaws.{reads_same}
use Rattle.bits.specs.Answer.{number}
use Rattle.bits.specs.declared.refusal.Refusal.{Refusal}
use Rattle.sheet.specs.Settings.{settings_of}
use Rattle.frame.specs.Answers.{gives, write_answer, read_answer}
use Rattle.frame.specs.Body.{body_bits, counts_of, total, baps_of}
use Rattle.frame.specs.Layout.{SameBelowEnds, cleaned}
use Rattle.frame.specs.Theorems.{body-reads-back, body-same-below-ends, body-count}
use Rattle.frame.specs.declared.answer.BodyBits.{BodyBits}
use Rattle.frame_body.specs.Formula.{counts-sum}
use Rattle.frame_body.specs.Writing.{sets_count}
use Rattle.promises.specs.Calls.{FrameUnder, counts, bits, Buffers, ReadAs}
use Rattle.promises.specs.Demand1.{write-accepted}
use Rattle.promises.proofs.ReadingLaws.{under, exps-rows, codes-rows, frame-read}
use Rattle.promises.specs.Demand3.{formula_of}

-- "if the bits of one, closing padding left off, begin the bits of the other, the frames are alike in every exponent and code"; and then
-- nothing is left of the other's bits
pub one-begins-the-other : (sheet exps codes exps' codes' : List ℕ) (u : List Bool) → FrameUnder sheet exps codes → FrameUnder sheet exps' codes'
    → body_bits (settings_of sheet) exps' codes' ≡ body_bits (settings_of sheet) exps codes ++ u
    → SameBelowEnds (settings_of sheet) exps exps' × SameBelowEnds (settings_of sheet) codes codes' × (u ≡ [])
one-begins-the-other sheet exps codes exps' codes' u f g e =
    let same : body_bits (settings_of sheet) exps codes ++ u ≡ body_bits (settings_of sheet) exps' codes' ++ [] = sym e ∙ sym (append-nil (body_bits (settings_of sheet) exps' codes')) in
    let alike = body-same-below-ends (settings_of sheet) exps codes exps' codes' u [] (under f) (exps-rows f) (exps-rows g) (codes-rows f) (codes-rows g) f.legal g.legal same in
    let nothing = (reads_same u [] (body-reads-back (settings_of sheet) exps codes (under f) (exps-rows f) f.legal) (body-reads-back (settings_of sheet) exps' codes' (under g) (exps-rows g) g.legal) same).1 in
    (alike.0, alike.1, nothing)

-- "Given the bits of either, whatever bits follow them, if any, the reader returns exactly that frame": below each end, with 0 from there on,
-- and with its allocation
pub reader-returns-the-frame : (sheet exps codes : List ℕ) → FrameUnder sheet exps codes
    → (input : List ℕ) (rest : List Bool) → bits_of input ≡ body_bits (settings_of sheet) exps codes ++ rest → (e b c : List ℕ) → Buffers sheet e b c
    → ReadAs sheet input e b c (gives (counts_of (settings_of sheet) exps codes) (length (body_bits (settings_of sheet) exps codes))) (cleaned (settings_of sheet) exps) (baps_of (settings_of sheet) exps) (cleaned (settings_of sheet) codes)
reader-returns-the-frame sheet exps codes f input rest here e b c l = frame-read sheet exps codes input rest e b c f here l

-- the two calls: what `write_body` answers to the frame, `read_body` answers to its bits, whatever bits follow them
module _ (sheet exps codes : List ℕ) (size : ℕ) (accepted : number (write_answer sheet exps codes size) ≡ 0)
    (input : List ℕ) (rest : List Bool) (here : bits_of input ≡ body_bits (settings_of sheet) exps codes ++ rest) (e b c : List ℕ) (l : Buffers sheet e b c) where
  pub same_answer : read_answer sheet (bits_of input) (length e) (length b) (length c) ≡ write_answer sheet exps codes size
  same_answer =
      let w = write-accepted sheet exps codes size accepted in
      (frame-read sheet exps codes input rest e b c w.frame here l).answered ∙ sym w.answer

  -- "and reports as the number of bits read the sum of the writer's twelve counts"
  pub reader-reports-the-sum : bits (read_answer sheet (bits_of input) (length e) (length b) (length c)) ≡ total (counts (write_answer sheet exps codes size))
  reader-reports-the-sum =
      let w = write-accepted sheet exps codes size accepted in
      ap (λ (a : Result BodyBits Refusal). bits a) (same_answer ∙ w.answer) ∙ body-count (settings_of sheet) exps codes ∙ sym (ap (λ (a : Result BodyBits Refusal). total (counts a)) w.answer)

-- "That sum is" the formula
pub sum-is-the-formula : (sheet exps codes : List ℕ) → FrameUnder sheet exps codes → total (counts_of (settings_of sheet) exps codes) ≡ formula_of (settings_of sheet) exps
unfolding sets_count
sum-is-the-formula sheet exps codes f = counts-sum (settings_of sheet) exps codes (under f) (exps-rows f) f.legal.coded

-- in one: the bits that the reader reports are the sum of the writer's twelve counts, which is the formula
pub reported-bits : (sheet exps codes : List ℕ) (size : ℕ) → number (write_answer sheet exps codes size) ≡ 0
    → (input : List ℕ) (rest : List Bool) → bits_of input ≡ body_bits (settings_of sheet) exps codes ++ rest → (e b c : List ℕ) → Buffers sheet e b c
    → (bits (read_answer sheet (bits_of input) (length e) (length b) (length c)) ≡ total (counts (write_answer sheet exps codes size)))
    × (total (counts (write_answer sheet exps codes size)) ≡ formula_of (settings_of sheet) exps)
reported-bits sheet exps codes size accepted input rest here e b c l =
    let w = write-accepted sheet exps codes size accepted in
    (reader-reports-the-sum sheet exps codes size accepted input rest here e b c l, rw w.answer (sum-is-the-formula sheet exps codes w.frame))
