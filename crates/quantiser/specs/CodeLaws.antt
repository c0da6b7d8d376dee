-- Laws of codes: the code is always in range for its bap; of bap 1 to 5 it is the nearest level's; a width is 5 to 16 bits.
use Rattle.std.specs.Prelude.{◌≡◌, refl, Bool, true, false, not, ◌&&◌, cond, List, [], ◌∷◌, ℕ, zero, suc, ◌+◌, ◌-◌, ◌^◌, ◌≤◌, ◌<◌, T, eqb, leb, ltb, Float, length, get_or, Ok, Err}
use Rattle.std.proofs.Common.{ap, mod-lt, not-suc-le-zero, le_of_suc-le-suc, arith, eqb→eq, leb→le, pow_pos, pow_mono}
use Rattle.std.proofs.Math.Decide.{dec_le}
use borrow.Author.Tests.{eq-eqb, ne_eqb, lt-ltb, le-ltb, ltb-false}
use Rattle.std.specs.Float.{nan, inf}
use Rattle.std.specs.Float.Ieee.{lt, round}
use Rattle.std.specs.Float.Ieee.Fits.{and_l, and_r}
use Rattle.std.specs.Float.Ieee.Scale.{finite}
use Rattle.bits.specs.Answer.{must, given}
use Rattle.bits.specs.declared.refusal.Refusal.TheVariants as refusal
use Rattle.mantissas.specs.Ranges.{levels as codeCount}
use Rattle.mantissas.specs.RangesLaws.{row}
use Rattle.tables.specs.Computed.{all_below, at-index}
use Rattle.tables.specs.Entry.{entry}
use Rattle.tables.specs.Quantizer.{levels, levels_from, level_count, level_counts, quantization_bits}
use Rattle.quantiser.specs.Scale.{zero32, scaled}
use Rattle.quantiser.specs.ScaleLaws.{scaled-within, within-finite}
use Rattle.quantiser.specs.Symmetric.{nearest_from, nearest_of, distance}
use Rattle.quantiser.specs.SymmetricLaws.{Nearest, nearest-is}
use Rattle.quantiser.specs.Asymmetric.{signed_code}
use Rattle.quantiser.specs.Code.{code_of, quantised}

-- ---- a row of Table 7.18

fraction_row : ℕ → Bool
fraction_row b = leb 5 (entry quantization_bits (6 + b)) && (leb (entry quantization_bits (6 + b)) 16 && eqb (codeCount (6 + b)) (2 ^ entry quantization_bits (6 + b)))

fraction-rows : T (all_below 10 fraction_row)
unfolding fraction_row codeCount level_count level_counts quantization_bits entry
fraction-rows = tt

-- bap 6 to 15: 5 to 16 bits, and a code for each value of them
pub record Fraction (b : ℕ) : Type 0 where
  pub least : 5 ≤ entry quantization_bits b
  pub most : entry quantization_bits b ≤ 16
  pub codes : codeCount b ≡ 2 ^ entry quantization_bits b

pub fraction : (b : ℕ) → 6 ≤ b → b ≤ 15 → Fraction b
unfolding fraction_row
fraction b h k =
    let e : 6 + (b - 6) ≡ b = omega arith in
    let w = entry quantization_bits b in
    let t : T (leb 5 w && (leb w 16 && eqb (codeCount b) (2 ^ w))) = rw e at (at-index 10 fraction_row fraction-rows (b - 6) (omega arith)) in
    record {
      least = leb→le 5 w (and_l (leb 5 w) _ t);
      most = leb→le w 16 (and_l (leb w 16) _ (and_r (leb 5 w) _ t));
      codes = eqb→eq _ _ (and_r (leb w 16) _ (and_r (leb 5 w) _ t));
    }

level_row : ℕ → Bool
level_row b = leb 1 (level_count (1 + b)) && eqb (codeCount (1 + b)) (level_count (1 + b))

level-rows : T (all_below 5 level_row)
unfolding level_row codeCount level_count level_counts entry
level-rows = tt

-- bap 1 to 5: a code for each level
level-row : (b : ℕ) → 1 ≤ b → b < 6 → (1 ≤ level_count b) × (codeCount b ≡ level_count b)
unfolding level_row
level-row b h k =
    let e : 1 + (b - 1) ≡ b = omega arith in
    let t : T (leb 1 (level_count b) && eqb (codeCount b) (level_count b)) = rw e at (at-index 5 level_row level-rows (b - 1) (omega arith)) in
    (leb→le 1 (level_count b) (and_l (leb 1 (level_count b)) _ t), eqb→eq _ _ (and_r (leb 1 (level_count b)) _ t))

-- ---- the code is in range

cond-lt : (t : Bool) (a b n : ℕ) → a < n → b < n → cond t a b < n
cond-lt true a b n h k = h
cond-lt false a b n h k = k

nearest-from-lt : (m : Float) (vs : List Float) (i best : ℕ) (d : Float) → best < i + length vs → nearest_from m vs i best d < i + length vs
unfolding nearest_from
nearest-from-lt m [] i best d h = h
nearest-from-lt m (v ∷ vs) i best d h =
    let t = lt (distance m v) d in
    let q : cond t i best < suc i + length vs = cond-lt t i best (suc i + length vs) (omega arith) (omega arith) in
    omega (arith, nearest-from-lt m vs (suc i) (cond t i best) (cond t (distance m v) d) q)

length-levels-from : (n k j : ℕ) → length (levels_from n k j) ≡ k
unfolding levels_from
length-levels-from n zero j = refl
length-levels-from n (suc k) j = ap suc (length-levels-from n k (suc j))

pub length-levels : (n : ℕ) → length (levels n) ≡ n
unfolding levels
length-levels n = length-levels-from n n 0

nearest-lt : (m : Float) (n : ℕ) → 1 ≤ n → nearest_of m (levels n) < n
unfolding nearest_of
nearest-lt m n h =
    let l = length-levels n in
    omega (arith, nearest-from-lt m (levels n) 0 0 (inf false) (omega arith))

pub signed_lt : (w : ℕ) (m : Float) → 1 ≤ w → signed_code w m < 2 ^ w
unfolding signed_code
signed_lt w m h =
    let p : 0 < 2 ^ (w - 1) = pow_pos (w - 1) in
    let q : 2 ^ (w - 1) ≤ 2 ^ w = pow_mono (let r : w - 1 ≤ w = omega arith in r) in
    cond-lt (lt m zero32) _ _ (2 ^ w) (mod-lt _ (pow_pos w)) (omega arith)

-- the code is always in range for its bap
pub code-in-range : (x : Float) (k b : ℕ) → b ≤ 15 → code_of x k b < codeCount b
unfolding code_of codeCount
code-in-range x k b h = by-bap (dec_le b 0) (dec_le b 5)
  where
    by-bap : Dec (b ≤ 0) → Dec (b ≤ 5) → code_of x k b < codeCount b
    by-bap (yes z) q = let e : b ≡ 0 = omega arith in rw (eq-eqb b 0 e) (omega arith)
    by-bap (no z) (yes l) =
        let r = level-row b (omega arith) (omega arith) in
        rw (ne_eqb b 0 (λ e. omega arith), lt-ltb b 6 (omega arith)) (omega (arith, nearest-lt (scaled x k) (level_count b) r.0, r.1))
    by-bap (no z) (no l) =
        let r = fraction b (omega arith) h in
        rw (ne_eqb b 0 (λ e. omega arith), le-ltb b 6 (omega arith)) (omega (arith, signed_lt (entry quantization_bits b) (scaled x k) (omega arith), r.codes))

-- it fits 16 bits
pub code-most : (x : Float) (k b : ℕ) → b ≤ 15 → code_of x k b < 65536
code-most x k b h = omega (arith, code-in-range x k b h, (row b (omega arith)).levels-most)

-- ---- the code of bap 1 to 5 is the nearest level's, the lowest index on a tie

all_finite : List Float → Bool
all_finite [] = true
all_finite (v ∷ vs) = finite v && all_finite vs

all-finite : (table : List Float) → T (all_finite table) → (k : ℕ) → k < length table → T (finite (get_or table k nan))
unfolding all_finite
all-finite [] t k h = absurd (not-suc-le-zero h)
all-finite (v ∷ vs) t zero h = and_l (finite v) (all_finite vs) t
all-finite (v ∷ vs) t (suc k) h = all-finite vs (and_r (finite v) (all_finite vs) t) k (le_of_suc-le-suc h)

finite-levels : T (all_below 5 (λ (b : ℕ). all_finite (levels (level_count (1 + b)))))
unfolding all_finite levels level_count level_counts round entry
finite-levels = tt

pub code-nearest : (x : Float) (k b : ℕ) → T (finite x) → k ≤ 24 → 1 ≤ b → b ≤ 5 → Nearest (scaled x k) (levels (level_count b)) (code_of x k b)
unfolding code_of
code-nearest x k b f K h l =
    let e : 1 + (b - 1) ≡ b = omega arith in
    let t : T (all_finite (levels (level_count b))) = rw e at (at-index 5 (λ (i : ℕ). all_finite (levels (level_count (1 + i)))) finite-levels (b - 1) (omega arith)) in
    let r = level-row b h (omega arith) in
    rw (ne_eqb b 0 (λ z. omega arith), lt-ltb b 6 (omega arith))
    (nearest-is (scaled x k) (levels (level_count b)) (within-finite (scaled x k) (scaled-within x k f K)) (all-finite (levels (level_count b)) t)
    (omega (arith, length-levels (level_count b), r.0)))

-- ---- the answer, by what was found of the input

module _ (x : Float) (k b : ℕ) where
  pub not_finite : finite x ≡ false → Err refusal.NotFinite ≡ quantised x k b
  unfolding quantised
  not_finite f = rw f

  pub large-exponent : finite x ≡ true → 24 < k → Err refusal.BadExponent ≡ quantised x k b
  unfolding quantised
  large-exponent f h = rw (f, lt-ltb 24 k h)

  pub large-bap : finite x ≡ true → k ≤ 24 → 15 < b → Err refusal.BadCode ≡ quantised x k b
  unfolding quantised
  large-bap f h l = rw (f, le-ltb 24 k h, lt-ltb 15 b l)

  pub all-fine : finite x ≡ true → k ≤ 24 → b ≤ 15 → (v : ℕ) → v ≡ code_of x k b → Ok v ≡ quantised x k b
  unfolding quantised
  all-fine f h l v e = rw (f, le-ltb 24 k h, le-ltb 15 b l, e)

-- what is answered fits 16 bits
pub quantised-most : (x : Float) (k b : ℕ) → given (quantised x k b) < 65536
unfolding quantised
quantised-most x k b = by_tests (finite x) (ltb 24 k) (ltb 15 b) refl
  where
    by_tests : (f g h : Bool) → ltb 15 b ≡ h
        → given (must f refusal.NotFinite (must (not g) refusal.BadExponent (must (not h) refusal.BadCode (Ok (code_of x k b))))) < 65536
    by_tests true true h e = omega arith
    by_tests true false true e = omega arith
    by_tests true false false e = omega (arith, code-most x k b (ltb-false 15 b e))
    by_tests false g h e = omega arith
