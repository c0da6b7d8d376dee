-- `preprocess_d15` and `quantise_exponents_to_grpsize`, the calls (document 01, "Exponents", "When a call is turned back"; document 02, W4): what each
-- answers, and the exponents that it leaves.
use Rattle.std.specs.Prelude.{Bool, ◌||◌, List, ℕ, ◌-◌, eqb, leb, length, Result, Ok}
use Rattle.bits.specs.Answer.{must, kept}
use Rattle.bits.specs.declared.refusal.Refusal.{Refusal}
use Rattle.bits.specs.declared.refusal.Refusal.TheVariants as refusal
use Rattle.shaping.specs.D15.{d15}
use Rattle.shaping.specs.Spans.{spanned}

-- "slices of at most 256 entries", "another length, is 10"
abbrev pub preprocess_check : List ℕ → Result Unit Refusal
preprocess_check exp = must (leb (length exp) 256) refusal.WrongLength (Ok tt)

-- the exponents after `preprocess_d15`: left as they were where it is refused
unfoldable pub preprocessed : List ℕ → List ℕ
preprocessed exp = kept (preprocess_check exp) (d15 exp) exp

-- a strategy's span: "span 1, 2 or 4"
abbrev pub is_span : ℕ → Bool
is_span span = eqb span 1 || (eqb span 2 || eqb span 4)

-- "Another end or span is 2", then the length
abbrev pub quantise_check : ℕ → List ℕ → Result Unit Refusal
quantise_check span exp = must (is_span span) refusal.OutOfRange (must (leb (length exp) 256) refusal.WrongLength (Ok tt))

-- the exponents after `quantise_exponents_to_grpsize`: left as they were where it is refused
unfoldable pub quantised : ℕ → List ℕ → List ℕ
quantised span exp = kept (quantise_check span exp) (spanned (span - 1) exp) exp
