-- Reading an exponent set (A/52 7.1.3; document 01: "The added reader takes group values 0..124, ignores pad deltas, fills spans up to end").
-- Faults come "as met in bit order": a field is read whole (7 where it runs past the input), then judged (8), a group's differences in order.
use Rattle.std.specs.Prelude.{Bool, cond, ◌&&◌, List, [], ◌∷◌, ◌++◌, ℕ, ◌+◌, ◌-◌, ◌/◌, ◌%◌, min, leb, length, get_or, replicate, Option, Some, None}
use Rattle.bits.specs.Reading.{Outcome, ok, fault, then, read_bits, steps}
use Rattle.bits.specs.declared.refusal.Refusal.TheVariants as refusal
use Rattle.exponents.specs.Groups.{group_count}

-- the exponent of the last bin that is there
abbrev pub last : List ℕ → ℕ
last exps = get_or exps (length exps - 1) 0

-- one difference (plus 2) after these exponents: the next span's bins, up to end; none where its exponent is outside 0..24.
-- Where all bins below end are there the difference is a pad, which is not looked at.
unfoldable pub with_span : ℕ → ℕ → ℕ → List ℕ → Option (List ℕ)
with_span end span d exps =
    cond (leb end (length exps)) (Some exps)
    (cond (leb 2 (last exps + d) && leb (last exps + d) 26) (Some (exps ++ replicate (min span (end - length exps)) (last exps + d - 2))) None)

-- go on where there is something
abbrev pub on_some : {A B : Type 0} → Option A → (A → Option B) → Option B
on_some None f = None
on_some (Some a) f = f a

-- a group's value: at most 124, then its three differences in order
unfoldable pub with_group : ℕ → ℕ → ℕ → List ℕ → Option (List ℕ)
with_group end span v exps =
    cond (leb v 124)
    (on_some (with_span end span (v / 25) exps) (λ a. on_some (with_span end span (v % 25 / 5) a) (λ b. with_span end span (v % 5) b)))
    None

-- what is none is fault 8, "group above 124, or exponent outside 0..24"
unfoldable pub or_bad_group : Option (List ℕ) → List Bool → Outcome (List ℕ)
or_bad_group None bits = fault refusal.BadGroup
or_bad_group (Some exps) bits = ok exps bits

-- the next group, number g, after the exponents so far
unfoldable pub read_group : ℕ → ℕ → ℕ → List ℕ → List Bool → Outcome (List ℕ)
read_group end span g exps bits = then (read_bits 7 bits) (λ v rest. or_bad_group (with_group end span v exps) rest)

-- the groups, behind the absolute value, which is bin 0's exponent
unfoldable pub read_groups : ℕ → ℕ → ℕ → List Bool → Outcome (List ℕ)
read_groups end span first bits = steps (read_group end span) (group_count end span) (first ∷ []) bits

-- the set: the exponents of the bins below end
unfoldable pub read_exponents : ℕ → ℕ → List Bool → Outcome (List ℕ)
read_exponents end span bits = then (read_bits 4 bits) (read_groups end span)
