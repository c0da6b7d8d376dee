-- The bits of an exponent set (A/52 7.1.3, 5.4.3; document 01, `write_exponents_grouped`: "4 bits, then `ngrps_for_strategy` groups of
-- 7 bits. Pads are zero deltas."). A group is three differences, each held as its value plus 2: so it is 0..4, and a group is 0..124.
use Rattle.std.specs.Prelude.{Bool, List, ◌++◌, ℕ, zero, suc, ◌+◌, ◌-◌, ◌*◌, length, get_or}
use Rattle.bits.specs.Field.{field}
use Rattle.bits.specs.Parts.{joined}
use Rattle.shaping.specs.Groups.{groups}
-- the spans coded after the absolute value
pub use Rattle.shaping.specs.Groups.{span_count}

-- how many groups there are, as `ngrps_for_strategy` counts them
unfoldable pub group_count : ℕ → ℕ → ℕ
group_count end span = groups end span

-- the exponents as they are coded: bin 0's, then each span's, for which its first bin stands;
-- past the last span the same again, so that a pad is a zero difference
unfoldable pub coded_at : ℕ → List ℕ → ℕ → ℕ
coded_at span exps zero = get_or exps 0 0
coded_at span exps (suc s) = get_or exps (1 + s * span) (coded_at span exps s)

-- the difference from p to e, plus 2
abbrev pub delta : ℕ → ℕ → ℕ
delta p e = e + 2 - p

-- the difference coded at span s, from the exponent before it
abbrev pub delta_at : ℕ → List ℕ → ℕ → ℕ
delta_at span exps s = delta (coded_at span exps s) (coded_at span exps (suc s))

-- three differences in one number
abbrev pub group : ℕ → ℕ → ℕ → ℕ
group a b c = 25 * a + 5 * b + c

-- the group of the three spans from s on
unfoldable pub group_at : ℕ → List ℕ → ℕ → ℕ
group_at span exps s = group (delta_at span exps s) (delta_at span exps (suc s)) (delta_at span exps (suc (suc s)))

-- the bits of group g, which has the spans 3g, 3g + 1 and 3g + 2
abbrev pub group_bits : ℕ → List ℕ → ℕ → List Bool
group_bits span exps g = field 7 (group_at span exps (3 * g))

-- the set: the absolute value, which is bin 0's exponent, then the groups
unfoldable pub exponent_bits : ℕ → List ℕ → List Bool
exponent_bits span exps = field 4 (get_or exps 0 0) ++ joined (group_count (length exps) span) (group_bits span exps)
