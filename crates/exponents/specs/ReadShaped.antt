-- Laws of what is read, whatever the bits are: it is shaped for its span, each exponent is 0..24, there are end of them, and they took
-- 4 bits and 7 for each group.
use Rattle.std.proofs.Math.Path.{◌≡◌, refl, ap}
use Rattle.std.proofs.Common.{◌∙◌, suc-mul, length-append}
use Rattle.std.specs.Prelude.{Bool, true, false, cond, leb, get_or, replicate, Option, None, Some}
use mathlib.Core.List.{List, [], ◌∷◌, ◌++◌}
use Prim.Native.Nat.{ℕ, suc, ◌+◌, ◌-◌, ◌*◌, ◌/◌, ◌%◌, ◌≤◌, ◌<◌, min}
use Rattle.std.proofs.Math.Nat.{zero-mul}
use Rattle.std.proofs.Math.Decide.{dec_lt, dec_le}
use native.Mathlib.Omega.{arith}
use Rattle.std.proofs.Math.ListN.{length}
use Rattle.std.proofs.lemmas.List.{length-replicate}
use borrow.Author.Tests.{leb-true}
use Rattle.bits.specs.Reading.{ok, read_bits}
use Rattle.bits.specs.ReadingLaws.{then_ok, steps-keep, bits-read}
use Rattle.shaping.specs.GroupsLaws.{span-bounds}
use Rattle.shaping.specs.Greatest.{Shaped}
use Rattle.shaping.proofs.ShapedLaws.{shaped-at-most}
use Rattle.sheet.specs.Ranges.{legal_end}
use Rattle.sheet.specs.RangesLaws.{end-bounds}
use Rattle.shaping.specs.Passes.{is_span}
use Rattle.exponents.specs.Groups.{group_count}
use Rattle.exponents.specs.GroupsLaws.{count-reaches}
use Rattle.exponents.specs.ShapedLaws.{shaped-append}
use Rattle.exponents.specs.Reading.{last, with_span, on_some, with_group, or_bad_group, read_group, read_groups, read_exponents}
use Rattle.exponents.specs.ReadingLaws.{span-pad, span-good, span_below, span-above}

-- ---- span by span

-- the exponents after s spans
record SoFar (end span s : ℕ) (exps : List ℕ) : Type 0 where
  pub shaped : Shaped (span - 1) exps
  pub long : length exps ≡ min end (1 + s * span)

never : {A : Type 0} {o : Option A} {a : A} → o ≡ None → o ≡ Some a → ⊥
never p q = let z : ◌≡◌ {A = ℕ} 0 1 = cc in omega arith

-- what some is made of
on_some_lem : {A B : Type 0} (o : Option A) (f : A → Option B) (b : B) → on_some o f ≡ Some b → (a : A) × ((o ≡ Some a) × (f a ≡ Some b))
on_some_lem None f b e = absurd (never refl e)
on_some_lem (Some a) f b e = (a, (refl, e))

guarded : {A : Type 0} (t : Bool) (o : Option A) (a : A) → cond t o None ≡ Some a → (t ≡ true) × (o ≡ Some a)
guarded true o a e = (refl, e)
guarded false o a e = absurd (never refl e)

module _ (end span : ℕ) (w : 0 < span) where
  span-kept : (s d : ℕ) (exps more : List ℕ) → d ≤ 4 → SoFar end span s exps → with_span end span d exps ≡ Some more → SoFar end span (suc s) more
  span-kept s d exps more b f e = go (dec_lt (length exps) end) (dec_le 2 (last exps + d)) (dec_le (last exps + d) 26)
    where
      go : Dec (length exps < end) → Dec (2 ≤ last exps + d) → Dec (last exps + d ≤ 26) → SoFar end span (suc s) more
      go (no l) x y =
          let q : exps ≡ more = cc (span-pad end span d exps (omega (arith, l))) in
          rw (← q) (record { shaped = f.shaped; long = omega (arith, l, f.long, suc-mul s span) })
      go (yes l) (no x) y = absurd (never (span_below end span d exps l (omega (arith, x))) e)
      go (yes l) (yes x) (no y) = absurd (never (span-above end span d exps l (omega (arith, y))) e)
      go (yes l) (yes x) (yes y) =
          let n = min span (end - length exps) in
          let v = last exps + d - 2 in
          let q : exps ++ replicate n v ≡ more = cc (span-good end span d exps l x y) in
          let at : length exps ≡ 1 + s * span = omega (arith, f.long) in
          let k : length (exps ++ replicate n v) ≡ length exps + n = length-append exps (replicate n v) ∙ ap (λ (m : ℕ). length exps + m) (length-replicate n v) in
          rw (← q) (record {
            shaped = shaped-append span exps s n v f.shaped w at (omega arith, omega arith, omega arith) (omega arith);
            long = omega (arith, suc-mul s span);
          })

  group-kept : (s v : ℕ) (exps more : List ℕ) → SoFar end span s exps → with_group end span v exps ≡ Some more → SoFar end span (suc (suc (suc s))) more
  unfolding with_group
  group-kept s v exps more f e =
      let g = guarded (leb v 124) _ more e in
      let top : v ≤ 124 = leb-true v 124 g.0 in
      let a = on_some_lem (with_span end span (v / 25) exps) _ more g.1 in
      let b = on_some_lem (with_span end span (v % 25 / 5) a.0) _ more a.1.1 in
      let one = span-kept s (v / 25) exps a.0 (omega arith) f a.1.0 in
      let two = span-kept (suc s) (v % 25 / 5) a.0 b.0 (omega arith) one b.1.0 in
      span-kept (suc (suc s)) (v % 5) b.0 more (omega arith) two b.1.1

  -- after g groups of 7 bits
  turn-kept : (total g : ℕ) (exps more : List ℕ) (bits rest : List Bool)
      → SoFar end span (3 * g) exps × (total ≡ 7 * g + length bits) → read_group end span g exps bits ≡ ok more rest
      → SoFar end span (3 * suc g) more × (total ≡ 7 * suc g + length rest)
  unfolding read_group or_bad_group
  turn-kept total g exps more bits rest p e = then_ok (read_bits 7 bits) _ more rest e (λ v u q h. of-group v u (with_group end span v exps) refl q h)
    where
      of-group : (v : ℕ) (u : List Bool) (o : Option (List ℕ)) → with_group end span v exps ≡ o → read_bits 7 bits ≡ ok v u → or_bad_group o u ≡ ok more rest
          → SoFar end span (3 * suc g) more × (total ≡ 7 * suc g + length rest)
      of-group v u None q r h = let z : ◌≡◌ {A = ℕ} 0 1 = cc in absurd (omega arith)
      of-group v u (Some l) q r h =
          let a : l ≡ more = cc in
          let b : u ≡ rest = cc in
          let k : 3 * suc g ≡ suc (suc (suc (3 * g))) = omega arith in
          let n : length u ≡ length rest = ap length b in
          (rw k (group-kept (3 * g) v exps more p.0 (q ∙ ap Some a)), omega (arith, p.1, (bits-read 7 bits v u r).0))

-- ---- the whole set

pub record ExponentsRead (end span : ℕ) (bits : List Bool) (exps : List ℕ) (rest : List Bool) : Type 0 where
  pub shaped : Shaped (span - 1) exps
  pub most : (i : ℕ) → get_or exps i 0 ≤ 24
  pub long : length exps ≡ end
  pub count : length bits ≡ 4 + 7 * group_count end span + length rest

module _ (end span : ℕ) (e : legal_end end ≡ true) (s : is_span span ≡ true) where
  -- behind the absolute value
  pub groups-read : (first : ℕ) (bits : List Bool) (exps : List ℕ) (rest : List Bool) → first ≤ 15 → read_groups end span first bits ≡ ok exps rest
      → Shaped (span - 1) exps × (length exps ≡ end) × (length bits ≡ 7 * group_count end span + length rest)
  unfolding read_groups
  groups-read first bits exps rest b h =
      let w = (span-bounds span s).0 in
      let n = end-bounds end e in
      let r = (count-reaches end span e s).0 in
      let start : SoFar end span (3 * 0) (first ∷ []) = record { shaped = (b, tt); long = omega (arith, zero-mul span) } in
      let k = steps-keep (λ g l t. SoFar end span (3 * g) l × (length bits ≡ 7 * g + length t)) (read_group end span) (turn-kept end span w (length bits)) (group_count end span) (first ∷ []) exps bits rest (start, omega arith) h in
      (k.0.shaped, omega (arith, k.0.long), k.1)

  pub exponents-read : (bits : List Bool) (exps : List ℕ) (rest : List Bool) → read_exponents end span bits ≡ ok exps rest → ExponentsRead end span bits exps rest
  unfolding read_exponents
  exponents-read bits exps rest h =
      then_ok (read_bits 4 bits) (read_groups end span) exps rest h (λ v u q k.
      let f = bits-read 4 bits v u q in
      let g = groups-read v u exps rest (omega (arith, f.1)) k in
      record { shaped = g.0; most = shaped-at-most (span - 1) exps g.0; long = g.1; count = omega (arith, f.0, g.2) })
