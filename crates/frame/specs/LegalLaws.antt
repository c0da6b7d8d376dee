-- What the tests of a legal frame say: two lists that are alike, a channel's part of a block, each part and the codes of each block.
use Rattle.std.specs.Prelude.{ℕ, ◌-◌, ◌<◌, ◌≡◌, refl, Bool, true, false, cond, ◌&&◌, List, [], ◌∷◌, eqb, take}
use Rattle.std.proofs.Common.{sym, ap₂, true≢false, eqb-true, eq-eqb}
use lib.Pointwise.{pointwise}
use Rattle.bits.specs.Parts.{piece}
use Rattle.elements.specs.declared.set.ExponentSet.TheVariants.{Reuse, New}
use Rattle.elements.specs.Strategy.{grpsize}
use Rattle.elements.specs.declared.strategy.Strategy.{Strategy}
use Rattle.mantissas.specs.Stream.{coded}
use Rattle.mantissas.specs.Inner.{Coded}
use Rattle.mantissas.specs.CodedLaws.{coded-true}
use Rattle.shaping.proofs.ShapedLaws.{shaped-yes}
use Rattle.shaping.specs.Greatest.{Shaped}
use Rattle.sheet.specs.Tests.{all-below}
use Rattle.sheet.specs.Settings.{channels, end_at, set_at}
use Rattle.sheet.specs.declared.settings.Settings.{Settings}
use Rattle.frame.specs.Layout.{row_of, clean_row}
use Rattle.frame.specs.Body.{bap_row}
use Rattle.frame.specs.Reader.{earlier}
use Rattle.frame.specs.Legal.{alike, part_legal, row_legal, exps_legal, codes_legal}

-- ---- two lists that are alike

alike-step : (t s : Bool) → cond t s false ≡ true → (t ≡ true) × (s ≡ true)
alike-step true s e = (refl, e)
alike-step false s e = absurd (true≢false (sym e))

pub alike_same : (x y : List ℕ) → alike x y ≡ true → x ≡ y
unfolding alike
alike_same [] [] e = refl
alike_same [] (y ∷ ys) e = absurd (true≢false (sym e))
alike_same (x ∷ xs) [] e = absurd (true≢false (sym e))
alike_same (x ∷ xs) (y ∷ ys) e =
    let h = alike-step (eqb x y) (alike xs ys) e in
    ap₂ (λ (a : ℕ) (l : List ℕ). a ∷ l) (eqb-true x y h.0) (alike_same xs ys h.1)

pub alike-itself : (x : List ℕ) → alike x x ≡ true
unfolding alike
alike-itself [] = refl
alike-itself (x ∷ xs) = rw (eq-eqb x x refl) (alike-itself xs)

-- that is what `==` of slices says
both-is : (t s : Bool) → (t && s) ≡ cond t s false
both-is true s = refl
both-is false s = refl

pub alike-pointwise : (x y : List ℕ) → pointwise eqb x y ≡ alike x y
unfolding alike
alike-pointwise [] [] = refl
alike-pointwise [] (y ∷ ys) = refl
alike-pointwise (x ∷ xs) [] = refl
alike-pointwise (x ∷ xs) (y ∷ ys) = rw (alike-pointwise xs ys) (both-is (eqb x y) (alike xs ys))

-- ---- one channel's part of a block

pub part-repeats : (end : ℕ) (old part : List ℕ) → part_legal Reuse end old part ≡ true → take end old ≡ take end part
unfolding part_legal
part-repeats end old part h = alike_same (take end old) (take end part) h

pub part-shaped : (strategy : Strategy) (end : ℕ) (old part : List ℕ) → part_legal (New strategy) end old part ≡ true → Shaped (grpsize strategy - 1) (take end part)
unfolding part_legal
part-shaped strategy end old part h = shaped-yes (grpsize strategy - 1) (take end part) h

-- ---- a legal frame

-- the exponents of each block
pub legal-row : (settings : Settings) (exps : List ℕ) → exps_legal settings exps ≡ true → (b : ℕ) → b < 6
    → row_legal settings b (earlier settings exps b) (row_of settings b exps) ≡ true
unfolding exps_legal
legal-row settings exps legal b hb = all-below 6 (λ b. row_legal settings b (earlier settings exps b) (row_of settings b exps)) legal b hb

-- each part of a block
pub part-of-row : (settings : Settings) (b : ℕ) (old row : List ℕ) → row_legal settings b old row ≡ true → (c : ℕ) → c < channels settings
    → part_legal (set_at settings b c) (end_at settings c) (piece 256 c old) (piece 256 c row) ≡ true
unfolding row_legal
part-of-row settings b old row legal c hc =
    all-below (channels settings) (λ c. part_legal (set_at settings b c) (end_at settings c) (piece 256 c old) (piece 256 c row)) legal c hc

-- each part of each block
pub legal-part : (settings : Settings) (exps : List ℕ) → exps_legal settings exps ≡ true → (b c : ℕ) → b < 6 → c < channels settings
    → part_legal (set_at settings b c) (end_at settings c) (piece 256 c (earlier settings exps b)) (piece 256 c (row_of settings b exps)) ≡ true
legal-part settings exps legal b c hb hc = part-of-row settings b (earlier settings exps b) (row_of settings b exps) (legal-row settings exps legal b hb) c hc

-- the codes of each block
pub legal-codes : (settings : Settings) (exps codes : List ℕ) → codes_legal settings exps codes ≡ true → (b : ℕ) → b < 6
    → Coded (bap_row settings (row_of settings b exps)) (clean_row settings (row_of settings b codes))
unfolding codes_legal
legal-codes settings exps codes legal b hb =
    coded-true _ _ (all-below 6 (λ b. coded (bap_row settings (row_of settings b exps)) (clean_row settings (row_of settings b codes))) legal b hb)
