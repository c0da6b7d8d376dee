-- Parts and blocks, one after the other: the test and the count of each, and of them all.
use mathlib.Core.Path.{◌≡◌, refl, sym, ap, ◌∙◌}
use mathlib.Core.Bool.{Bool, true, ◌&&◌}
use mathlib.Core.List.{List, [], ◌∷◌, ◌++◌}
use Prim.Native.Nat.{ℕ, zero, suc, ◌+◌, ◌-◌, ◌≤◌, ◌<◌}
use native.Mathlib.Omega.{arith}
use native.Mathlib.Decide.{dec_le}
use lib.Dec.{ltb}
use lib.ListN.{take, drop}
use Rattle.bits.specs.Parts.{joined}
use Rattle.bits.specs.PartsLaws.{joined-more}
use Rattle.bits.specs.Tests.{by_bool}
use Rattle.mantissas.specs.Blocks.{part_baps, block_baps}
use Rattle.mantissas.proofs.BlocksLaws.{block-most}
use Rattle.mantissas.specs.Formula.{count, alone}
use Rattle.mantissas.specs.Inner.{Below, nil, cons}
use Rattle.mantissas.specs.Stream.{baps_fit, bit_count}
use Rattle.mantissas.specs.Tally.{tally_of, tally_bits}
use Rattle.mantissas.specs.TallyLaws.{tally-append, tally-bits}
use Rattle.sheet.specs.Inner.{PartStart}
use Rattle.sheet.specs.LegalSettings.{LegalSettings}
use Rattle.sheet.specs.Settings.{channels, end_at}
use Rattle.sheet.proofs.SettingsLaws.{channels-bounds}
use Rattle.sheet.specs.declared.settings.Settings.{Settings}

-- ---- the baps of a part are among those of the whole

below_parts : {m : ℕ} (xs ys : List ℕ) → Below m (xs ++ ys) → Below m xs × Below m ys
below_parts [] ys h = (nil, h)
below_parts (x ∷ xs) ys (cons hx h) = let p = below_parts xs ys h in (cons hx p.0, p.1)

pub below-joined : {m : ℕ} (f : ℕ → List ℕ) (k i : ℕ) → Below m (joined k f) → i < k → Below m (f i)
unfolding joined
below-joined f zero i h l = absurd (omega arith)
below-joined {m} f (suc k) i h l =
    let p = below_parts (joined k f) (f k) h in
    by_cases (dec_le (suc i) k) (below-joined f k i p.0) p.1
  where
    by_cases : Dec (suc i ≤ k) → (suc i ≤ k → Below m (f i)) → Below m (f k) → Below m (f i)
    by_cases (yes e) earlier last = earlier e
    by_cases (no e) earlier last = let q : k ≡ i = omega (arith, e) in rw q at last

-- the part that is lent is the channel's below its end
pub part-taken : {block c n a end : ℕ} (settings : Settings) (bap : List ℕ) → n ≡ channels settings → end ≡ end_at settings c → PartStart n block c a
    → take (a + end - a) (drop a bap) ≡ part_baps settings bap block c
unfolding part_baps
part-taken {block} {c} {n} {a} {end} settings bap many e p =
    let k : a + end - a ≡ end_at settings c = omega (arith, e) in
    rw (k, p.is, many)

-- the baps of a channel's part are among those of its block
pub part-below : {m : ℕ} (settings : Settings) (bap : List ℕ) (block c : ℕ) → Below m (block_baps settings bap block) → c < channels settings → Below m (part_baps settings bap block c)
unfolding block_baps
part-below settings bap block c b h = below-joined (part_baps settings bap block) (channels settings) c b h

-- ---- the test

pub fits-start : (f : ℕ → List ℕ) → true ≡ baps_fit (joined 0 f)
unfolding joined baps_fit
fits-start f = refl

fits-append : (xs ys : List ℕ) → baps_fit (xs ++ ys) ≡ (baps_fit xs && baps_fit ys)
unfolding baps_fit
fits-append [] ys = refl
fits-append (x ∷ xs) ys = by_bool (ltb x 16) (λ e. rw e (fits-append xs ys)) (λ e. rw e)

pub fits_more : (f : ℕ → List ℕ) (i : ℕ) (l : List ℕ) (s t : Bool) → s ≡ baps_fit (joined i f) → t ≡ baps_fit l → l ≡ f i
    → (s && t) ≡ baps_fit (joined (i + 1) f)
fits_more f i l s t hs ht e = rw (joined-more i f, hs, ht, e) (sym (fits-append (joined i f) (f i)))

pub fits-block : (settings : Settings) (bap : List ℕ) (block : ℕ) {s : Bool} (i : ℕ) → s ≡ baps_fit (joined i (part_baps settings bap block)) → i ≡ channels settings
    → s ≡ baps_fit (block_baps settings bap block)
unfolding block_baps
fits-block settings bap block i h e = h ∙ ap (λ (n : ℕ). baps_fit (joined n (part_baps settings bap block))) e

-- ---- the count

pub tally-start : (f : ℕ → List ℕ) → 0 ≡ tally_of (joined 0 f)
unfolding joined tally_of alone count
tally-start f = refl

pub tally-more : (f : ℕ → List ℕ) (i : ℕ) (l : List ℕ) (n r : ℕ) → n ≡ tally_of (joined i f) → r ≡ n + tally_of l → l ≡ f i → r ≡ tally_of (joined (i + 1) f)
tally-more f i l n r h q e = rw (joined-more i f, q, h, e) (sym (tally-append (joined i f) (f i)))

pub tally-block : {settings : Settings} (bap : List ℕ) (block n r i : ℕ) → LegalSettings settings → Below 16 (block_baps settings bap block)
    → n ≡ tally_of (joined i (part_baps settings bap block)) → i ≡ channels settings → r ≡ tally_bits n → r ≡ bit_count (block_baps settings bap block)
tally-block {settings} bap block n r i under b h q d =
    let whole : n ≡ tally_of (block_baps settings bap block) = unfold block_baps in h ∙ ap (λ (k : ℕ). tally_of (joined k (part_baps settings bap block))) q in
    d ∙ ap tally_bits whole ∙ tally-bits b (omega (arith, block-most bap block under, channels-bounds under))
