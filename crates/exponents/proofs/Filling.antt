-- A slice whose first entries are made anew and whose others become 0.
use mathlib.Core.Path.{◌≡◌, ap, ◌∙◌}
use mathlib.Core.List.{List, [], append-nil}
use Prim.Native.Nat.{ℕ, ◌-◌, ◌≤◌}
use native.Mathlib.Omega.{arith}
use lib.ListN.{length, take, length-append, drop, replicate, length-take, length-drop, drop_of_length-le}
use lib.Seq.{drop_at, take_at, length-take-le}
use Rattle.bits.specs.PartsLaws.{placed}

-- every entry made v, which is 0
pub all-zero : (l now : List ℕ) (n v : ℕ) → now ≡ replicate n v → n ≡ length l → v ≡ 0 → now ≡ replicate (length l) 0
all-zero l now n v e k z = e ∙ rw (k, z)

-- the first `end` entries made anew
module _ (l ys : List ℕ) (end k : ℕ) (e : k ≡ end) (y : length ys ≡ end) (h : end ≤ length l) where
  front_length : length (placed 0 k l ys) ≡ length l
  front_length = length-append ys (drop k l) ∙ rw length-drop (omega arith)

  -- and those from end on made 0
  module _ (zs : List ℕ) (n : ℕ) (a : n ≡ length l) (q : zs ≡ replicate (length (take (n - end) (drop end (placed 0 k l ys)))) 0) where
    zero-long : length (take (n - end) (drop end (placed 0 k l ys))) ≡ n - end
    zero-long = rw (length-take, length-drop) (omega (arith, front_length))

    front_long : length (take end (placed 0 k l ys)) ≡ end
    front_long = length-take-le end (placed 0 k l ys) (omega (arith, front_length))

    pub both-front : take end (placed end (n - end) (placed 0 k l ys) zs) ≡ ys
    both-front = take_at (take end (placed 0 k l ys)) _ end front_long ∙ take_at ys (drop k l) end y

    pub both_rest : drop end (placed end (n - end) (placed 0 k l ys) zs) ≡ replicate (n - end) 0
    both_rest =
        let none : drop (n - end) (drop end (placed 0 k l ys)) ≡ [] =
        drop_of_length-le (drop end (placed 0 k l ys)) {i = n - end} (rw length-drop (omega (arith, front_length))) in
        drop_at (take end (placed 0 k l ys)) _ end front_long ∙ rw (none, append-nil) (q ∙ ap (λ (j : ℕ). replicate j 0) zero-long)
