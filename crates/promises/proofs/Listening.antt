-- The listening copy of a frame that is written and read back (document 02, W3); what else holds of the copy is in specs/Listening.antt.
use Rattle.std.specs.Prelude.{ℕ, ◌≡◌, List}
use Rattle.bits.specs.Answer.{number}
use Rattle.sheet.specs.Settings.{settings_of}
use Rattle.frame.specs.Answers.{write_answer}
use Rattle.frame.specs.Layout.{cleaned}
use Rattle.reconstruct.specs.Copy.{copy_of}
use Rattle.reconstruct.specs.CopyLaws.{copy-same}
use Rattle.promises.proofs.Demand2.{read-back-is-the-same}

-- A FRAME THAT IS WRITTEN AND READ BACK SOUNDS THE SAME: what `read_body` leaves of what `write_body` wrote (Demand2.antt, `written-reads-back`)
-- has the copy of what was written
pub read-back-heard : (sheet exps codes : List ℕ) (size : ℕ) → number (write_answer sheet exps codes size) ≡ 0
    → copy_of (settings_of sheet) (cleaned (settings_of sheet) exps) (cleaned (settings_of sheet) codes) ≡ copy_of (settings_of sheet) exps codes
read-back-heard sheet exps codes size accepted =
    let same = read-back-is-the-same sheet exps codes size accepted in
    copy-same (settings_of sheet) (cleaned (settings_of sheet) exps) exps (cleaned (settings_of sheet) codes) codes same.0 same.1
