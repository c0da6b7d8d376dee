-- Entries stored one after the other: what is done, then what is left to do, is the whole.
use Rattle.std.specs.Prelude.{ℕ, ◌+◌, ◌≤◌, ◌<◌, List, [], ◌∷◌, ◌++◌, ◌≡◌, length, take, set}
use Rattle.std.proofs.Common.{append_assoc, append-nil, sym, ap, ◌∙◌, add-one, take-suc-set, take_all}

-- one entry stored
pub stored : (l rest whole : List ℕ) (i v : ℕ) → i < length l → take i l ++ (v ∷ rest) ≡ whole → take (i + 1) (set l i v) ++ rest ≡ whole
stored l rest whole i v h e = rw (add-one, take-suc-set l i v h, append_assoc (take i l) (v ∷ []) rest) e

-- nothing is left
pub ended : (l rest whole : List ℕ) (i : ℕ) → length l ≤ i → rest ≡ [] → take i l ++ rest ≡ whole → l ≡ whole
ended l rest whole i h z e = sym (take_all i l h) ∙ sym (append-nil (take i l)) ∙ ap (λ (r : List ℕ). take i l ++ r) (sym z) ∙ e
