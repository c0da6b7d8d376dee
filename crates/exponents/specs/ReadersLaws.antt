-- The reader of a set is a `Reader` (bits/specs/Readers.antt): it reads a front of the bits and looks at nothing behind it, and its faults are 7 and 8.
use Rattle.std.specs.Prelude.{ℕ, List, [], ◌∷◌, Option, None, Some}
use Rattle.std.proofs.Common.{arith}
use Rattle.bits.specs.Readers.{Reader, reader-ok, reader-fault, reader-then, reader-steps, reader-bits}
use Rattle.bits.specs.declared.refusal.Refusal.TheVariants as refusal
use Rattle.exponents.specs.Groups.{group_count}
use Rattle.exponents.specs.Reading.{with_group, or_bad_group, read_group, read_groups, read_exponents}

reader-judge : (o : Option (List ℕ)) → Reader (or_bad_group o)
unfolding or_bad_group
reader-judge None = reader-fault refusal.BadGroup (omega arith) (omega arith)
reader-judge (Some exps) = reader-ok exps

pub reader-group : (end span g : ℕ) (exps : List ℕ) → Reader (read_group end span g exps)
unfolding read_group
reader-group end span g exps = reader-then (reader-bits 7) (λ v. reader-judge (with_group end span v exps))

pub reader-exponents : (end span : ℕ) → Reader (read_exponents end span)
unfolding read_exponents read_groups
reader-exponents end span = reader-then (reader-bits 4) (λ first. reader-steps (reader-group end span) (group_count end span) (first ∷ []))
