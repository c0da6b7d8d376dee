-- Entries of a list stored one after the other from the front.
use mathlib.Core.List.{List}
use mathlib.Core.Path.{◌≡◌, sym, ◌∙◌}
use Prim.Native.Nat.{ℕ, ◌+◌, ◌≤◌, ◌<◌}
use native.Mathlib.Numerals.{add-one}
use native.Mathlib.Omega.{arith}
use lib.ListN.{length, take, get_or, set}
use lib.Seq.{take-suc, take-suc-set, take_all}

pub copy_more : (x y : List ℕ) (i v : ℕ) → i < length x → i < length y → take i y ≡ take i x → v ≡ get_or x i 0 → take (i + 1) (set y i v) ≡ take (i + 1) x
copy_more x y i v h l e q = rw (add-one i, take-suc-set y i v l, take-suc x i 0 h, e, q)

pub copy-end : (x y : List ℕ) (i : ℕ) → length x ≤ i → length y ≡ length x → take i y ≡ take i x → y ≡ x
copy-end x y i h l e = sym (take_all i y (omega (arith, h, l))) ∙ e ∙ take_all i x h
