-- What the frame's functions use of legal settings (document 01, "The track sheet"): what is known of each channel and of each of its blocks.
use Rattle.std.specs.Prelude.{◌≤◌, ◌<◌, ◌≡◌, ℕ, refl, true}
use Rattle.allocation.specs.Legal.{LegalCodes}
use Rattle.allocation.specs.AllocationLaws.{codes-legal}
use Rattle.elements.specs.declared.set.ExponentSet.{ExponentSet}
use Rattle.elements.specs.declared.set.ExponentSet.TheVariants.{Reuse, New}
use Rattle.elements.specs.declared.strategy.Strategy.{Strategy}
use Rattle.sheet.specs.LegalSettings.{LegalSettings}
use Rattle.sheet.specs.Ranges.{legal_end}
use Rattle.sheet.specs.Settings.{channels, record_at, end_at, set_at}
use Rattle.sheet.proofs.SettingsLaws.{record-known, first-known, end-legal}
use Rattle.sheet.specs.declared.settings.Settings.{Settings}
use Rattle.frame.specs.Layout.{by_set}

-- one of the channels of legal settings
pub record Channel (settings : Settings) (c : ℕ) : Type 0 where
  pub legal : legal_end (end_at settings c) ≡ true
  pub end-least : 7 ≤ end_at settings c
  pub end-most : end_at settings c ≤ 253
  pub first : set_at settings 0 c ≡ Reuse → ⊥
  pub codes : LegalCodes settings.common (record_at settings c).codes

pub channel-known : (settings : Settings) → LegalSettings settings → (c : ℕ) → c < channels settings → Channel settings c
channel-known settings under c l =
    let e = end-legal under c l in
    record {
      legal = e.legal;
      end-least = e.bounds.least;
      end-most = e.bounds.most;
      first = first-known under c l;
      codes = codes-legal under.common (record-known under c l);
    }

-- ---- reuse, or a new set with its strategy: either of the two
pub one_of_two : {X : Type 0} (set : ExponentSet) → (set ≡ Reuse → X) → ((strategy : Strategy) → set ≡ New strategy → X) → X
one_of_two Reuse reuse new = reuse refl
one_of_two (New strategy) reuse new = new strategy refl

-- what is said by cases of a set is what the case says
module _ {A : Type 0} {set : ExponentSet} (reused : A) (new : Strategy → A) where
  pub by-reuse : set ≡ Reuse → by_set set reused new ≡ reused
  unfolding by_set
  by-reuse e = rw e

  pub by-new : (strategy : Strategy) → set ≡ New strategy → by_set set reused new ≡ new strategy
  unfolding by_set
  by-new strategy e = rw e
