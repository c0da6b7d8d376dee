-- A part that is written in two: what stands below end, then one value in each entry.
use Rattle.std.specs.Prelude.{ℕ, ◌-◌, ◌≤◌, List, ◌++◌, ◌≡◌, length, take, drop, replicate}
use Rattle.std.proofs.Common.{append-nil, ap, ◌∙◌, arith, length-append, length-take, length-drop, drop_of_length-le, take_at, drop_at}
use Rattle.std.proofs.lemmas.List.{length-replicate}
use Rattle.bits.specs.PartsLaws.{placed}

module _ {A : Type 0} (end : ℕ) (l front : List A) (long : length l ≡ 256) (held : end ≤ 256) (n : length front ≡ end) where
  pub front_long : length (front ++ drop (end - 0) l) ≡ 256
  front_long = rw (length-append, length-drop) (omega arith)

  pub rest-long : length (take (256 - end) (drop end (front ++ drop (end - 0) l))) ≡ 256 - end
  rest-long = rw (length-take, length-drop) (omega (arith, front_long))

  module _ (v : A) (rest : List A) (z : rest ≡ replicate (length (take (256 - end) (drop end (front ++ drop (end - 0) l)))) v) where
    pub two-parts : placed end (256 - end) (front ++ drop (end - 0) l) rest ≡ front ++ replicate (256 - end) v
    two-parts =
        let r = drop (end - 0) l in
        let short : length r ≤ 256 - end = rw length-drop (omega arith) in
        rw (take_at front r end n, drop_at front r end n, drop_of_length-le r short, append-nil rest, z ∙ ap (λ (k : ℕ). replicate {A = A} k v) rest-long)

    pub two-parts-long : length (placed end (256 - end) (front ++ drop (end - 0) l) rest) ≡ 256
    two-parts-long = ap length two-parts ∙ rw (length-append, length-replicate {A = A} (256 - end) v) (omega arith)
