-- Laws of reading an exponent set: what was written is read back, in one way only.
use Rattle.std.specs.Prelude.{◌≡◌, refl, Bool, true, take, drop, replicate, None, Some}
use Rattle.std.proofs.Math.Path.{sym, ap}
use Rattle.std.proofs.Common.{◌∙◌, length-take, length-drop, take-add, take_all, get_or-take, length-take-le, le-leb}
use mathlib.Core.List.{List, [], ◌∷◌, ◌++◌}
use Prim.Native.Nat.{ℕ, zero, suc, ◌+◌, ◌-◌, ◌*◌, ◌^◌, ◌≤◌, ◌<◌, min}
use Rattle.std.proofs.Math.Nat.{zero-mul, suc-mul}
use Rattle.std.proofs.Math.Decide.{dec_lt}
use native.Mathlib.Omega.{arith}
use Rattle.std.proofs.Math.ListN.{length, get_or, get_or-replicate}
use Rattle.std.proofs.Math.Seq.{get_or-drop}
use Rattle.std.proofs.lemmas.Bool.{lt-leb}
use Rattle.bits.specs.ReadingLaws.{reads-bits, reads_then, reads-steps, reads_same, Reads}
use Rattle.shaping.specs.GroupsLaws.{span-bounds}
use Rattle.shaping.specs.Greatest.{Shaped}
use Rattle.sheet.specs.Ranges.{legal_end}
use Rattle.sheet.specs.RangesLaws.{end-bounds}
use Rattle.shaping.specs.Passes.{is_span}
use Rattle.exponents.specs.Groups.{group_count, coded_at, delta_at, group_at, group_bits, exponent_bits}
use Rattle.exponents.specs.GroupsLaws.{shaped-span, group-parts, count-reaches}
use Rattle.exponents.specs.ShapedLaws.{first-low}
use Rattle.exponents.specs.Reading.{last, with_span, with_group, or_bad_group, read_group, read_groups, read_exponents}

-- ---- one difference

-- a pad is not looked at
pub span-pad : (end span d : ℕ) (exps : List ℕ) → end ≤ length exps → with_span end span d exps ≡ Some exps
unfolding with_span
span-pad end span d exps h = rw (le-leb end (length exps) h)

-- a difference to an exponent within 0..24
pub span-good : (end span d : ℕ) (exps : List ℕ) → length exps < end → 2 ≤ last exps + d → last exps + d ≤ 26
    → with_span end span d exps ≡ Some (exps ++ replicate (min span (end - length exps)) (last exps + d - 2))
unfolding with_span
span-good end span d exps h l u = rw (lt-leb end (length exps) h, le-leb 2 (last exps + d) l, le-leb (last exps + d) 26 u)

-- one to an exponent outside 0..24
pub span_below : (end span d : ℕ) (exps : List ℕ) → length exps < end → last exps + d < 2 → with_span end span d exps ≡ None
unfolding with_span
span_below end span d exps h u = rw (lt-leb end (length exps) h, lt-leb 2 (last exps + d) u)

pub span-above : (end span d : ℕ) (exps : List ℕ) → length exps < end → 26 < last exps + d → with_span end span d exps ≡ None
unfolding with_span
span-above end span d exps h u = rw (lt-leb end (length exps) h, le-leb 2 (last exps + d) (omega arith), lt-leb (last exps + d) 26 u)

-- ---- reading back

pub last_taken : (q : ℕ) (xs : List ℕ) → 0 < q → q ≤ length xs → last (take q xs) ≡ get_or xs (q - 1) 0
last_taken q xs w l = rw (length-take-le q xs l, get_or-take q xs (q - 1) 0 (omega arith))

module _ (span : ℕ) (exps : List ℕ) (w : 0 < span) (f : Shaped (span - 1) exps) where
  -- the exponent in the bin before span s is the one coded before it
  pub before-coded : (s : ℕ) → 1 + s * span < length exps → get_or exps (1 + s * span - 1) 0 ≡ coded_at span exps s
  unfolding coded_at
  before-coded zero h =
      let e : 1 + 0 * span - 1 ≡ 0 = omega (arith, zero-mul span) in
      ap (λ (i : ℕ). get_or exps i 0) e
  before-coded (suc s) h =
      let q = 1 + s * span in
      let r = shaped-span span exps s w f (omega (arith, suc-mul s span)) in
      let e : 1 + suc s * span - 1 ≡ q + (span - 1) = omega (arith, suc-mul s span) in
      let n : span - 1 < length (take span (drop q exps)) = rw (length-take, length-drop) (omega (arith, suc-mul s span)) in
      ap (λ (i : ℕ). get_or exps i 0) e
      ∙ sym (get_or-take span (drop q exps) (span - 1) 0 (omega arith) ∙ get_or-drop q exps (span - 1) 0)
      ∙ ap (λ (l : List ℕ). get_or l (span - 1) 0) r.run
      ∙ get_or-replicate (length (take span (drop q exps))) (span - 1) (coded_at span exps (suc s)) 0 n

  -- the bins of one span more
  span-back : (s : ℕ) → with_span (length exps) span (delta_at span exps s) (take (1 + s * span) exps) ≡ Some (take (1 + suc s * span) exps)
  span-back s = go (dec_lt (1 + s * span) (length exps))
    where
      go : Dec (1 + s * span < length exps) → with_span (length exps) span (delta_at span exps s) (take (1 + s * span) exps) ≡ Some (take (1 + suc s * span) exps)
      go (yes l) =
          let q = 1 + s * span in
          let r = shaped-span span exps s w f l in
          let n : length (take q exps) ≡ q = length-take-le q exps (omega (arith, l)) in
          let p : last (take q exps) ≡ coded_at span exps s = last_taken q exps (omega arith) (omega (arith, l)) ∙ before-coded s l in
          let v : last (take q exps) + delta_at span exps s ≡ coded_at span exps (suc s) + 2 = omega (arith, r.near) in
          let u : last (take q exps) + delta_at span exps s - 2 ≡ coded_at span exps (suc s) = omega arith in
          let m : min span (length exps - length (take q exps)) ≡ length (take span (drop q exps)) = rw (n, length-take span (drop q exps), length-drop) in
          let k : 1 + suc s * span ≡ q + span = omega (arith, suc-mul s span) in
          span-good (length exps) span (delta_at span exps s) (take q exps) (omega (arith, l)) (omega (arith, r.near)) (omega (arith, r.near))
          ∙ ap Some (rw (u, m, k, take-add q span exps) (ap (λ (t : List ℕ). take q exps ++ t) (sym r.run)))
      go (no l) =
          rw (take_all (1 + s * span) exps (omega (arith, l)), take_all (1 + suc s * span) exps (omega (arith, l, suc-mul s span)))
          (span-pad (length exps) span (delta_at span exps s) exps (omega arith))

  group-back : (s : ℕ) → with_group (length exps) span (group_at span exps s) (take (1 + s * span) exps) ≡ Some (take (1 + suc (suc (suc s)) * span) exps)
  unfolding with_group
  group-back s =
      let g = group-parts span exps w f s in
      rw (le-leb (group_at span exps s) 124 g.0, g.1, g.2, g.3, span-back s, span-back (suc s), span-back (suc (suc s)))

  reads-group : (g : ℕ) → Reads (read_group (length exps) span g (take (1 + 3 * g * span) exps)) (group_bits span exps g) (take (1 + 3 * suc g * span) exps)
  unfolding read_group or_bad_group
  reads-group g =
      let e : 3 * suc g ≡ suc (suc (suc (3 * g))) = omega arith in
      let b : group_at span exps (3 * g) < 2 ^ 7 = omega (arith, (group-parts span exps w f (3 * g)).0) in
      record { back = λ rest. rw ((reads-bits 7 (group_at span exps (3 * g)) b).back rest, e, group-back (3 * g)) }

pub take-one : (xs : List ℕ) → 0 < length xs → take 1 xs ≡ get_or xs 0 0 ∷ []
take-one [] h = absurd (omega arith)
take-one (x ∷ r) h = refl

-- a set that was written is read back, whatever bits follow
pub reads-exponents : (span : ℕ) (exps : List ℕ) → legal_end (length exps) ≡ true → is_span span ≡ true → Shaped (span - 1) exps
    → Reads (read_exponents (length exps) span) (exponent_bits span exps) exps
unfolding read_exponents exponent_bits read_groups
reads-exponents span exps e s f =
    let end = length exps in
    let w = (span-bounds span s).0 in
    let r = (count-reaches end span e s).0 in
    let n : 1 + 3 * 0 * span ≡ 1 = omega (arith, zero-mul span) in
    let first : take (1 + 3 * 0 * span) exps ≡ get_or exps 0 0 ∷ [] = rw n (take-one exps (omega (arith, end-bounds end e))) in
    let all : take (1 + 3 * group_count end span * span) exps ≡ exps = take_all _ exps r in
    reads_then _ (reads-bits 4 (get_or exps 0 0) (omega (arith, first-low (span - 1) exps f)))
    (rw (first, all) at (reads-steps (read_group end span) (group_bits span exps) (λ g. take (1 + 3 * g * span) exps) (group_count end span) (λ g l. reads-group span exps w f g)))

-- one reading only: sets whose bits begin alike are the same
pub exponents-same : (span : ℕ) (xs ys : List ℕ) (u v : List Bool) → legal_end (length xs) ≡ true → is_span span ≡ true → length xs ≡ length ys
    → Shaped (span - 1) xs → Shaped (span - 1) ys → exponent_bits span xs ++ u ≡ exponent_bits span ys ++ v → (xs ≡ ys) × (u ≡ v)
exponents-same span xs ys u v e s n f g q =
    let r : Reads (read_exponents (length xs) span) (exponent_bits span ys) ys = rw n (reads-exponents span ys (rw n at e) s g) in
    reads_same u v (reads-exponents span xs e s f) r q
