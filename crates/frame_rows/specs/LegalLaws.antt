-- What a legal frame is, block by block and channel by channel: new sets are shaped, reuse blocks repeat, no exponent below end is above 24.
use Rattle.std.specs.Prelude.{ℕ, zero, suc, ◌-◌, ◌*◌, ◌≤◌, ◌<◌, ◌≡◌, true, List, length, take, get_or}
use Rattle.std.proofs.Common.{sym, ap, ◌∙◌, arith, get_or-take}
use Rattle.bits.specs.Parts.{piece}
use Rattle.elements.specs.declared.set.ExponentSet.TheVariants.{Reuse, New}
use Rattle.elements.specs.Strategy.{grpsize}
use Rattle.elements.specs.declared.strategy.Strategy.{Strategy}
use Rattle.shaping.specs.Greatest.{Shaped}
use Rattle.shaping.proofs.ShapedLaws.{shaped-at-most}
use Rattle.sheet.specs.Settings.{channels, end_at, set_at}
use Rattle.sheet.specs.LegalSettings.{LegalSettings}
use Rattle.sheet.specs.declared.settings.Settings.{Settings}
use Rattle.frame.specs.Layout.{row_of}
use Rattle.frame.specs.Body.{bap_row}
use Rattle.frame.specs.Reader.{earlier}
use Rattle.frame.specs.Legal.{exps_legal}
use Rattle.frame.specs.LegalLaws.{part-repeats, part-shaped, legal-part}
use Rattle.frame.specs.LayoutLaws.{take-clean, end-inside, piece-clean, length-row, bap_part-same, piece-bap}
use Rattle.frame.specs.Under.{channel-known, one_of_two}
use Rattle.frame_rows.specs.Inner.{LowRow, KeptBap}

-- shaped exponents are at most 24
low-shaped : (h end : ℕ) (part : List ℕ) → Shaped h (take end part) → (bin : ℕ) → bin < end → get_or part bin 0 ≤ 24
low-shaped h end part s bin l = rw (get_or-take end part bin 0 l) at (shaped-at-most h (take end part) s bin)

-- what is the same below end is at most 24 in both
low_same : (end : ℕ) (old part : List ℕ) → take end old ≡ take end part → ((bin : ℕ) → bin < end → get_or old bin 0 ≤ 24)
    → (bin : ℕ) → bin < end → get_or part bin 0 ≤ 24
low_same end old part e h bin l =
    let q : get_or old bin 0 ≡ get_or part bin 0 =
    sym (get_or-take end old bin 0 l) ∙ ap (λ (x : List ℕ). get_or x bin 0) e ∙ get_or-take end part bin 0 l in
    omega (arith, q, h bin l)

-- the row that holds when a later block begins, below an end
pub earlier-taken : (settings : Settings) (exps : List ℕ) → LegalSettings settings → length exps ≡ 256 * channels settings * 6 → (b c : ℕ) → suc b < 6 → c < channels settings
    → take (end_at settings c) (piece 256 c (earlier settings exps (suc b))) ≡ take (end_at settings c) (piece 256 c (row_of settings b exps))
unfolding earlier
earlier-taken settings exps under long b c hb hc =
    let row = row_of settings b exps in
    let n = length-row settings exps b long (omega arith) in
    ap (take (end_at settings c)) (piece-clean settings under row n c hc)
    ∙ take-clean (end_at settings c) (piece 256 c row) (end-inside settings under row n c hc)

module _ (settings : Settings) (exps : List ℕ) (under : LegalSettings settings) (long : length exps ≡ 256 * channels settings * 6) (legal : exps_legal settings exps ≡ true) where
  -- a new set is shaped
  pub new-shaped : (b c : ℕ) → b < 6 → c < channels settings → (strategy : Strategy) → set_at settings b c ≡ New strategy
      → Shaped (grpsize strategy - 1) (take (end_at settings c) (piece 256 c (row_of settings b exps)))
  new-shaped b c hb hc strategy z = part-shaped strategy (end_at settings c) (piece 256 c (earlier settings exps b)) _ (rw z at (legal-part settings exps legal b c hb hc))

  -- a reuse block repeats the block before, below end
  pub reuse-repeats : (b c : ℕ) → suc b < 6 → c < channels settings → set_at settings (suc b) c ≡ Reuse
      → take (end_at settings c) (piece 256 c (row_of settings b exps)) ≡ take (end_at settings c) (piece 256 c (row_of settings (suc b) exps))
  reuse-repeats b c hb hc z =
      sym (earlier-taken settings exps under long b c hb hc)
      ∙ part-repeats (end_at settings c) (piece 256 c (earlier settings exps (suc b))) _ (rw z at (legal-part settings exps legal (suc b) c hb hc))

  low-new : (b c : ℕ) → b < 6 → c < channels settings → (strategy : Strategy) → set_at settings b c ≡ New strategy
      → (bin : ℕ) → bin < end_at settings c → get_or (piece 256 c (row_of settings b exps)) bin 0 ≤ 24
  low-new b c hb hc strategy z = low-shaped _ (end_at settings c) (piece 256 c (row_of settings b exps)) (new-shaped b c hb hc strategy z)

  low-at : (b c : ℕ) → b < 6 → c < channels settings → (bin : ℕ) → bin < end_at settings c → get_or (piece 256 c (row_of settings b exps)) bin 0 ≤ 24
  low-at zero c hb hc = one_of_two (set_at settings 0 c) (λ z. absurd ((channel-known settings under c hc).first z)) (low-new 0 c hb hc)
  low-at (suc b) c hb hc =
      one_of_two (set_at settings (suc b) c)
      (λ z. low_same (end_at settings c) (piece 256 c (row_of settings b exps)) (piece 256 c (row_of settings (suc b) exps)) (reuse-repeats b c hb hc z) (low-at b c (omega arith) hc))
      (low-new (suc b) c hb hc)

  -- no exponent below an end is above 24
  pub legal-low : (b : ℕ) → b < 6 → LowRow settings (row_of settings b exps)
  legal-low b hb = record { low = λ c hc. low-at b c hb hc }

  -- what an allocation keeps: nothing in block 0, and after it what the block before has
  pub kept-first : (bap : List ℕ) → KeptBap settings 0 (row_of settings 0 exps) bap
  kept-first bap = record { kept = λ c hc z. absurd ((channel-known settings under c hc).first z) }

  pub kept_next : (b : ℕ) → suc b < 6 → KeptBap settings (suc b) (row_of settings (suc b) exps) (bap_row settings (row_of settings b exps))
  kept_next b hb =
      record {
        kept = λ c hc z.
            piece-bap settings (row_of settings b exps) c hc ∙ bap_part-same settings c (piece 256 c (row_of settings b exps)) (piece 256 c (row_of settings (suc b) exps)) (reuse-repeats b c hb hc z);
      }
