-- Demand 3: under legal settings, as those of an accepted sheet are, what is written of a legal frame is read back, in one way only, and its length is the sum of the
-- twelve counts. That each count is its formula is shown in frame_body/specs/Formula.antt.
use Rattle.std.specs.Prelude.{ℕ, ◌*◌, ◌≡◌, Bool, List, ◌++◌, length}
use Rattle.std.proofs.Common.{sym, ap, ◌∙◌}
use Rattle.bits.specs.ReadingLaws.{reads-steps, reads_same, Reads}
use Rattle.sheet.specs.Settings.{channels}
use Rattle.sheet.specs.LegalSettings.{LegalSettings}
use Rattle.sheet.specs.declared.settings.Settings.{Settings}
use Rattle.frame.specs.Layout.{row_of, SameBelowEnds}
use Rattle.frame.specs.LayoutLaws.{length-row, same-below-ends}
use Rattle.frame.specs.Body.{sets_bits, mantissa_bits, block_bits, body_bits, exponent_counts, mantissa_counts, counts_of, total}
use Rattle.frame.specs.BodyLaws.{total-append, total-joined}
use Rattle.frame.specs.Legal.{LegalFrame}
use Rattle.frame.specs.LegalLaws.{legal-row, legal-codes}
use Rattle.frame.specs.Reader.{Frame, read_block, read_frame}
use Rattle.frame.specs.ReadBackLaws.{frame_of, block_reads, earlier-kept, frame-grows, frame-starts, row_at}

-- READ BACK: the bits of a legal frame, and any others after them, read as that frame, and the others are left
pub body-reads-back : (settings : Settings) (exps codes : List ℕ) → LegalSettings settings → length exps ≡ 256 * channels settings * 6 → LegalFrame settings exps codes
    → Reads (read_frame settings) (body_bits settings exps codes) (frame_of settings exps codes 6)
unfolding read_frame body_bits
body-reads-back settings exps codes under long legal =
    rw (frame-starts settings exps codes) at (reads-steps (read_block settings) (λ b. block_bits settings b (row_of settings b exps) (row_of settings b codes))
    (frame_of settings exps codes) 6
    (λ b l. rw (frame-grows settings exps codes b) at (block_reads settings under b (frame_of settings exps codes b) (row_of settings b exps) (row_of settings b codes)
    (length-row settings exps b long l)
    (rw (row_at settings exps codes b) (earlier-kept settings under exps long b l))
    (rw (row_at settings exps codes b) (legal-row settings exps legal.shaped b l))
    (legal-codes settings exps codes legal.coded b l))))

-- UNIQUE READING: two legal frames whose bits begin alike are alike below each end
pub body-reads-one-way : (settings : Settings) (exps codes exps' codes' : List ℕ) (u v : List Bool) → LegalSettings settings
    → length exps ≡ 256 * channels settings * 6 → length exps' ≡ 256 * channels settings * 6 → LegalFrame settings exps codes → LegalFrame settings exps' codes'
    → body_bits settings exps codes ++ u ≡ body_bits settings exps' codes' ++ v → frame_of settings exps codes 6 ≡ frame_of settings exps' codes' 6
body-reads-one-way settings exps codes exps' codes' u v under long long' legal legal' e =
    (reads_same u v (body-reads-back settings exps codes under long legal) (body-reads-back settings exps' codes' under long' legal') e).0

-- the same buffer by buffer: the exponents and the codes of the two frames are the same below each end
pub body-same-below-ends : (settings : Settings) (exps codes exps' codes' : List ℕ) (u v : List Bool) → LegalSettings settings
    → length exps ≡ 256 * channels settings * 6 → length exps' ≡ 256 * channels settings * 6
    → length codes ≡ 256 * channels settings * 6 → length codes' ≡ 256 * channels settings * 6
    → LegalFrame settings exps codes → LegalFrame settings exps' codes'
    → body_bits settings exps codes ++ u ≡ body_bits settings exps' codes' ++ v → SameBelowEnds settings exps exps' × SameBelowEnds settings codes codes'
unfolding frame_of
body-same-below-ends settings exps codes exps' codes' u v under long long' codes-long codes-long' legal legal' e =
    let same = body-reads-one-way settings exps codes exps' codes' u v under long long' legal legal' e in (
      same-below-ends settings exps exps' under long long' (ap (λ (f : Frame). f.exps) same),
      same-below-ends settings codes codes' under codes-long codes-long' (ap (λ (f : Frame). f.codes) same),
    )

-- COUNT: the bits of a body are as many as the sum of its twelve counts
pub body-count : (settings : Settings) (exps codes : List ℕ) → length (body_bits settings exps codes) ≡ total (counts_of settings exps codes)
unfolding body_bits block_bits exponent_counts mantissa_counts counts_of
body-count settings exps codes =
    total-joined (λ b. sets_bits settings b (row_of settings b exps)) (λ b. mantissa_bits settings (row_of settings b exps) (row_of settings b codes)) 6
    ∙ sym (total-append (exponent_counts settings exps 6) (mantissa_counts settings exps codes 6))
