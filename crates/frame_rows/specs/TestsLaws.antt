-- The tests of causes 4 and 5 as the code makes them are those of the definitions.
use Rattle.std.specs.Prelude.{ℕ, zero, suc, ◌-◌, ◌*◌, ◌<◌, ◌≡◌, refl, List, length, take}
use Rattle.std.proofs.Common.{sym, ap, ap₂, arith}
use Rattle.bits.specs.Parts.{piece}
use Rattle.elements.specs.declared.set.ExponentSet.{ExponentSet}
use Rattle.elements.specs.declared.set.ExponentSet.TheVariants.{Reuse, New}
use Rattle.elements.specs.Strategy.{grpsize}
use Rattle.elements.specs.declared.strategy.Strategy.{Strategy}
use Rattle.mantissas.specs.Stream.{coded}
use Rattle.shaping.specs.Shaped.{shaped_for}
use Rattle.sheet.specs.Settings.{channels, end_at, set_at}
use Rattle.sheet.specs.LegalSettings.{LegalSettings}
use Rattle.sheet.specs.declared.settings.Settings.{Settings}
use Rattle.frame.specs.Layout.{row_of, cleaned}
use Rattle.frame.specs.Legal.{alike, part_legal, row_legal, codes_legal}
use Rattle.frame.specs.Reader.{earlier}
use Rattle.frame.specs.Under.{channel-known}
use Rattle.frame_rows.specs.CleanLaws.{all-below-same}
use Rattle.frame_rows.specs.LegalLaws.{earlier-taken}
use Rattle.frame.specs.Body.{baps_of}
use Rattle.frame_rows.specs.RowsLaws.{row-baps, row-cleaned}
use Rattle.frame_rows.specs.Tests.{rows_coded}

-- ---- codes

-- clean codes under their bap are in range where the codes are
pub rows-coded : (settings : Settings) (exps codes : List ℕ) → LegalSettings settings → length codes ≡ 256 * channels settings * 6
    → rows_coded settings (baps_of settings exps) (cleaned settings codes) ≡ codes_legal settings exps codes
unfolding rows_coded codes_legal
rows-coded settings exps codes under long =
    all-below-same 6 _ _ (λ b h. ap₂ coded (row-baps settings exps b h) (row-cleaned settings codes under long b h))

-- ---- exponents

pub part-reuse : (set : ExponentSet) (end : ℕ) (old part : List ℕ) → set ≡ Reuse → alike (take end old) (take end part) ≡ part_legal set end old part
unfolding part_legal
part-reuse set end old part e = rw e

pub part-new : (set : ExponentSet) (strategy : Strategy) (end : ℕ) (old part : List ℕ) → set ≡ New strategy → shaped_for (grpsize strategy - 1) (take end part) ≡ part_legal set end old part
unfolding part_legal
part-new set strategy end old part e = rw e

-- only a reuse block depends on the part before, and on what stands there below end
part-after : (set : ExponentSet) (end : ℕ) (old other part : List ℕ) → (set ≡ Reuse → take end old ≡ take end other) → part_legal set end old part ≡ part_legal set end other part
unfolding part_legal
part-after Reuse end old other part h = ap (λ (l : List ℕ). alike l (take end part)) (h refl)
part-after (New strategy) end old other part h = refl

-- so the block before may be taken as it stands in the buffer
below_end : (settings : Settings) (exps : List ℕ) → LegalSettings settings → length exps ≡ 256 * channels settings * 6 → (b c : ℕ) → b < 6 → c < channels settings
    → set_at settings b c ≡ Reuse
    → take (end_at settings c) (piece 256 c (row_of settings (b - 1) exps)) ≡ take (end_at settings c) (piece 256 c (earlier settings exps b))
below_end settings exps under long zero c hb hc z = absurd ((channel-known settings under c hc).first z)
below_end settings exps under long (suc b) c hb hc z = let e : suc b - 1 ≡ b = omega arith in rw e (sym (earlier-taken settings exps under long b c hb hc))

pub row-after : (settings : Settings) (exps : List ℕ) → LegalSettings settings → length exps ≡ 256 * channels settings * 6 → (b : ℕ) → b < 6
    → row_legal settings b (row_of settings (b - 1) exps) (row_of settings b exps) ≡ row_legal settings b (earlier settings exps b) (row_of settings b exps)
unfolding row_legal
row-after settings exps under long b hb =
    all-below-same (channels settings) _ _
    (λ c hc. part-after (set_at settings b c) (end_at settings c) _ _ (piece 256 c (row_of settings b exps)) (below_end settings exps under long b c hb hc))
