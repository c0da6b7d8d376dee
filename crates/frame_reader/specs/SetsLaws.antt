-- What the exponents of a block are once they were read: as many as before, a reuse block's parts as they were, none below an end above 24.
use Rattle.std.specs.Prelude.{ℕ, ◌+◌, ◌-◌, ◌*◌, ◌≤◌, ◌<◌, ◌≡◌, refl, Bool, true, List, ◌++◌, length, get_or, replicate}
use Rattle.std.proofs.Common.{sym, ap, ◌∙◌, arith, length-append}
use Rattle.std.proofs.lemmas.List.{length-replicate}
use Rattle.std.proofs.Math.ListN.{get_or-append}
use Rattle.bits.specs.Parts.{piece}
use Rattle.bits.specs.Reading.{ok}
use Rattle.bits.specs.ReadingLaws.{then_ok, gather-parts}
use Rattle.elements.specs.Strategy.{grpsize}
use Rattle.elements.specs.declared.set.ExponentSet.{ExponentSet}
use Rattle.elements.specs.declared.set.ExponentSet.TheVariants.{Reuse, New}
use Rattle.elements.specs.declared.strategy.Strategy.{Strategy}
use Rattle.exponents.specs.ReadShaped.{exponents-read}
use Rattle.exponents.specs.Reading.{read_exponents}
use Rattle.shaping.proofs.ShapedLaws.{shaped-at-most}
use Rattle.shaping.specs.GroupsLaws.{is_span-grpsize}
use Rattle.sheet.specs.Ranges.{legal_end}
use Rattle.sheet.specs.Settings.{channels, end_at, set_at}
use Rattle.sheet.specs.LegalSettings.{LegalSettings}
use Rattle.sheet.specs.declared.settings.Settings.{Settings}
use Rattle.frame.specs.Body.{bap_part, bap_row}
use Rattle.frame.specs.LayoutLaws.{length_part, length-bap_row, piece-bap}
use Rattle.frame.specs.Reader.{read_part, read_sets}
use Rattle.frame.specs.Under.{channel-known}
use Rattle.frame_rows.specs.Inner.{LowRow, KeptBap}
use Rattle.frame_reader.specs.Reading.{HeldRows}

-- ---- one channel's part

-- a part after the part `old` of the block before
record PartRead (set : ExponentSet) (end : ℕ) (old part : List ℕ) : Type 0 where
  pub repeats : set ≡ Reuse → part ≡ old
  pub low : (bin : ℕ) → bin < end → get_or part bin 0 ≤ 24

set-read : (strategy : Strategy) (end : ℕ) (bits : List Bool) (exps : List ℕ) (rest : List Bool) → legal_end end ≡ true → end ≤ 256
    → read_exponents end (grpsize strategy) bits ≡ ok exps rest → (length (exps ++ replicate (256 - end) 0) ≡ 256) × ((bin : ℕ) → bin < end → get_or (exps ++ replicate (256 - end) 0) bin 0 ≤ 24)
set-read strategy end bits exps rest legal most e =
    let r = exponents-read end (grpsize strategy) legal (is_span-grpsize strategy) bits exps rest e in (
      rw (length-append, length-replicate) (omega (arith, r.long)),
      λ bin b. rw (get_or-append exps (replicate (256 - end) 0) 0 bin (omega (arith, r.long))) (shaped-at-most _ exps r.shaped bin),
    )

part-read : (set : ExponentSet) (end : ℕ) (old : List ℕ) (bits : List Bool) (part : List ℕ) (rest : List Bool) → legal_end end ≡ true → end ≤ 256 → length old ≡ 256
    → ((bin : ℕ) → bin < end → get_or old bin 0 ≤ 24) → read_part set end old bits ≡ ok part rest → (length part ≡ 256) × PartRead set end old part
unfolding read_part
part-read Reuse end old bits part rest legal most long low e =
    let q : old ≡ part = cc in
    rw (← q) (long, record { repeats = λ z. refl; low = low })
part-read (New strategy) end old bits part rest legal most long low e =
    then_ok (read_exponents end (grpsize strategy) bits) _ part rest e
    (λ exps t q f.
    let w : exps ++ replicate (256 - end) 0 ≡ part = cc in
    let g = set-read strategy end bits exps t legal most q in
    rw (← w) (g.0, record { repeats = λ z. cc; low = g.1 }))

-- ---- the row

module _ (settings : Settings) (under : LegalSettings settings) (b : ℕ) (old : List ℕ) (bits : List Bool) (row : List ℕ) (rest : List Bool)
    (long : length old ≡ 256 * channels settings) (low : LowRow settings old) (e : read_sets settings b old bits ≡ ok row rest) where
  parts-read : (length row ≡ 256 * channels settings) × ((c : ℕ) → c < channels settings → PartRead (set_at settings b c) (end_at settings c) (piece 256 c old) (piece 256 c row))
  unfolding read_sets
  parts-read =
      gather-parts 256 (λ c part. PartRead (set_at settings b c) (end_at settings c) (piece 256 c old) part) _ (channels settings)
      (λ c h t v u q.
      let known = channel-known settings under c h in
      let most : end_at settings c ≤ 256 = omega (arith, known.end-most) in
      part-read (set_at settings b c) (end_at settings c) (piece 256 c old) t v u known.legal most (length_part settings old c long h) (low.low c h) q)
      bits row rest e

  pub row-long : length row ≡ 256 * channels settings
  row-long = parts-read.0

  pub row_low : LowRow settings row
  row_low = record { low = λ c h. (parts-read.1 c h).low }

  -- where the block is reuse the bap that was held is the row's
  pub row_kept : (bap : List ℕ) → ((b ≡ 0 → ⊥) → bap ≡ bap_row settings old) → KeptBap settings b row bap
  row_kept bap held =
      record {
        kept = λ c h z.
            let later : b ≡ 0 → ⊥ = λ q. (channel-known settings under c h).first (rw q at z) in
            ap (piece 256 c) (held later) ∙ piece-bap settings old c h ∙ ap (bap_part settings c) (sym ((parts-read.1 c h).repeats z));
      }

  -- so the rows are held for the next block
  pub rows_next : HeldRows settings (b + 1) row (bap_row settings row)
  rows_next = record { row-long = row-long; bap-long = length-bap_row settings row; low = row_low; kept = λ z. refl }
