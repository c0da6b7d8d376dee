-- The reader of a stream is a `Reader` (bits/specs/Readers.antt): it reads a front of the bits and looks at nothing behind it, and its faults are 7 and 9.
use Rattle.std.specs.Prelude.{ℕ, ◌^◌, Bool, true, false, cond, ltb}
use mathlib.Core.List.{List, [], ◌∷◌, head_d, tail}
use Rattle.std.proofs.Common.{arith}
use Rattle.bits.specs.Readers.{Reader, reader-ok, reader-fault, reader-then, reader-bits}
use Rattle.bits.specs.Reading.{ok, fault}
use Rattle.bits.specs.declared.refusal.Refusal.TheVariants as refusal
use Rattle.mantissas.specs.Digits.{digits}
use Rattle.mantissas.specs.Ranges.{size, levels, width}
use Rattle.mantissas.specs.State.{update}
use Rattle.mantissas.specs.Stream.{judged, read_group, members, read_from, read_stream}

reader-test : (t : Bool) (v : ℕ) → Reader (λ rest. cond t (ok v rest) (fault refusal.NoCode))
reader-test true v = reader-ok v
reader-test false v = reader-fault refusal.NoCode (omega arith) (omega arith)

pub reader-value : (b : ℕ) → Reader (read_group b)
unfolding read_group judged
reader-value b = reader-then (reader-bits (width b)) (λ v. reader-test (ltb v (levels b ^ size b)) v)

pub reader-members : (b : ℕ) (q : List ℕ) → Reader (members b q)
unfolding members
reader-members b [] = reader-then (reader-value b) (λ v. reader-ok (digits (levels b) (size b) v))
reader-members b (c ∷ q) = reader-ok (c ∷ q)

pub reader-from : (bap : List ℕ) (p : ℕ → List ℕ) → Reader (read_from p bap)
unfolding read_from
reader-from [] p = reader-ok []
reader-from (b ∷ bs) p = reader-then (reader-members b (p b)) (λ q. reader-then (reader-from bs (update p b (tail q))) (λ cs. reader-ok (head_d q 0 ∷ cs)))

pub reader-stream : (bap : List ℕ) → Reader (read_stream bap)
unfolding read_stream
reader-stream bap = reader-from bap (λ k. [])
