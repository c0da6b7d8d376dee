-- How many groups of three differences an exponent set has (A/52 7.1.3; the Rust's `ngrps_for_strategy`).
use Rattle.std.specs.Prelude.{cond, ◌&&◌, ℕ, ◌+◌, ◌-◌, ◌/◌, eqb, leb, Result, Ok}
use Rattle.bits.specs.Answer.{must}
use Rattle.bits.specs.declared.refusal.Refusal.{Refusal}
use Rattle.bits.specs.declared.refusal.Refusal.TheVariants as refusal
use Rattle.shaping.specs.Passes.{is_span}

-- D15: (end - 1) / 3, D25: (end - 1 + 3) / 6, D45: (end - 1 + 9) / 12, cut to whole; `-` stops at 0, so that an end of 0 has none
abbrev pub groups : ℕ → ℕ → ℕ
groups end span = cond (eqb span 1) ((end - 1) / 3) (cond (eqb span 2) ((end - 1 + 3) / 6) ((end - 1 + 9) / 12))

-- the answer of `ngrps_for_strategy`: 2 for another end than 0..256, or another span
unfoldable pub groups_answer : ℕ → ℕ → Result ℕ Refusal
groups_answer end span = must (leb end 256 && is_span span) refusal.OutOfRange (Ok (groups end span))

-- "the spans coded after the 4 bits" (document 01, "The frame body"): they start at bin 1, and the last may be short
abbrev pub span_count : ℕ → ℕ → ℕ
span_count end span = (end - 1 + (span - 1)) / span
