-- The turns of the loop over the bins of a part: the codes so far, then those that are left, are the whole.
use Prim.Native.Nat.{ℕ, ◌+◌, ◌≤◌, ◌<◌}
use mathlib.Core.List.{List, ◌++◌}
use mathlib.Core.Path.{◌≡◌}
use native.Mathlib.Numerals.{add-one}
use lib.Ieee.{Float, nan}
use lib.ListN.{length, take, drop, get_or, set, drop_of_length-le}
use lib.Seq.{drop-cons}
use Rattle.frame_runs.specs.FillingLaws.{stored, ended}
use Rattle.quantiser.specs.Code.{code_of}
use Rattle.frame_encoder.specs.Codes.{codes_for}

pub code-more : (xs : List Float) (exps bap codes whole : List ℕ) (i v : ℕ) → i < length codes → i < length xs → i < length exps → i < length bap
    → v ≡ code_of (get_or xs i nan) (get_or exps i 0) (get_or bap i 0) → take i codes ++ codes_for (drop i xs) (drop i exps) (drop i bap) ≡ whole
    → take (i + 1) (set codes i v) ++ codes_for (drop (i + 1) xs) (drop (i + 1) exps) (drop (i + 1) bap) ≡ whole
unfolding codes_for
code-more xs exps bap codes whole i v h hx he hb q e =
    stored codes _ whole i v h (rw (q, add-one) (rw (drop-cons xs i nan hx, drop-cons exps i 0 he, drop-cons bap i 0 hb) at e))

pub code-end : (xs : List Float) (exps bap codes whole : List ℕ) (i : ℕ) → length codes ≤ i → length xs ≤ i
    → take i codes ++ codes_for (drop i xs) (drop i exps) (drop i bap) ≡ whole → codes ≡ whole
unfolding codes_for
code-end xs exps bap codes whole i h l e = ended codes _ whole i h (rw (drop_of_length-le xs l)) e
