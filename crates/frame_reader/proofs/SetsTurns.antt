-- The channels of a block as the code reads their sets: what the row holds after c channels, and what one channel more makes of it.
use Rattle.std.specs.Prelude.{ℕ, ◌+◌, ◌-◌, ◌*◌, ◌≤◌, ◌<◌, ◌≡◌, refl, Bool, List, length, take, drop}
use Rattle.std.proofs.Common.{sym, ◌∙◌, arith}
use lib.Seq.{take_all}
use Rattle.bits.specs.Parts.{piece}
use Rattle.bits.specs.PartsLaws.{within, part-long, placed-length, place-front, part-old, place_rest, placed}
use Rattle.bits.specs.Read.{from, At}
use Rattle.bits.specs.Reading.{ok, fault, gather}
use Rattle.bits.specs.ReadingLaws.{gather-start, gather-again, gather-fault}
use Rattle.bits.specs.declared.refusal.Refusal.{Refusal}
use Rattle.elements.specs.declared.set.ExponentSet.{ExponentSet}
use Rattle.sheet.specs.LegalSettings.{ChannelCount, ChannelEnd}
use Rattle.sheet.specs.Settings.{channels, end_at, set_at}
use Rattle.sheet.specs.declared.settings.Settings.{Settings}
use Rattle.frame.specs.Reader.{read_part, read_sets}
use Rattle.frame_rows.specs.RowsLaws.{channel-there}
use Rattle.frame_reader.specs.Reading.{most_set}

-- c channels were read, up to the position `at`; the parts behind them are still as they were
pub record SetsRead (settings : Settings) (b : ℕ) (old : List ℕ) (bits : List Bool) (pos c : ℕ) (row : List ℕ) (at : ℕ) : Type 0 where
  pub few : c ≤ channels settings
  pub long : length row ≡ 256 * channels settings
  pub inside : at ≤ length bits
  pub later : pos ≤ at
  pub near : at ≤ pos + most_set * c
  pub read : gather (λ j. read_part (set_at settings b j) (end_at settings j) (piece 256 j old)) c (from pos bits) ≡ ok (take (256 * c) row) (from at bits)
  pub rest : drop (256 * c) row ≡ drop (256 * c) old

pub sets-start : (settings : Settings) (b : ℕ) (old : List ℕ) (bits : List Bool) (pos : ℕ) → length old ≡ 256 * channels settings → pos ≤ length bits
    → SetsRead settings b old bits pos 0 old pos
sets-start settings b old bits pos long inside =
    record { few = omega arith; long = long; inside = inside; later = omega arith; near = omega arith; read = gather-start _ (from pos bits); rest = refl }

-- what the code holds by value of channel c, and where its part stands: k entries from a on
pub record Turn (settings : Settings) (b c : ℕ) (set : ExponentSet) (end a k : ℕ) : Type 0 where
  pub there : c < channels settings
  pub set_is : set ≡ set_at settings b c
  pub end_is : end ≡ end_at settings c
  pub start : a ≡ 256 * c
  pub wide : k ≡ 256

pub turn-of : {settings : Settings} {n b c end : ℕ} {set : ExponentSet} → ChannelCount settings n → c < n
    → set ≡ set_at settings b c → ChannelEnd settings c end → Turn settings b c set end (256 * c) (256 * c + 256 - 256 * c)
turn-of {settings} {n} {b} {c} many h s e = record { there = channel-there many c h; set_is = s; end_is = e.is; start = refl; wide = omega arith }

module _ {settings : Settings} {b : ℕ} {old : List ℕ} {bits : List Bool} {pos c : ℕ} {row : List ℕ} {at : ℕ} (t : SetsRead settings b old bits pos c row at)
    {set : ExponentSet} {end a k : ℕ} (u : Turn settings b c set end a k) where
  fits : 256 * c + 256 ≤ length row
  fits = omega (arith, within 256 c (channels settings) u.there, t.long)

  -- the part that is lent
  pub part-size : length (take k (drop a row)) ≡ 256
  part-size = part-long 256 c a k row u.start u.wide fits

  -- the row with the part in its place
  pub row-size : (part : List ℕ) → length part ≡ 256 → length (placed a k row part) ≡ 256 * channels settings
  row-size part n = placed-length row part a k (omega (arith, fits, u.start, u.wide)) (n ∙ sym u.wide) ∙ t.long

  same-part : read_part set end (take k (drop a row)) (from at bits) ≡ read_part (set_at settings b c) (end_at settings c) (piece 256 c old) (from at bits)
  same-part = rw (u.set_is, u.end_is, part-old 256 c a k row old u.start u.wide t.rest)

  pub sets-fault : (k' : Refusal) → read_part set end (take k (drop a row)) (from at bits) ≡ fault k' → read_sets settings b old (from pos bits) ≡ fault k'
  unfolding read_sets
  sets-fault k' bad = gather-fault _ c k' (take (256 * c) row) (from pos bits) (from at bits) (channels settings) u.there t.read (sym same-part ∙ bad)

  pub sets_more : {part : List ℕ} {p : ℕ} → At (read_part set end (take k (drop a row)) (from at bits)) part bits at p → p ≤ at + most_set → length part ≡ 256
      → SetsRead settings b old bits pos (c + 1) (placed a k row part) p
  sets_more {part} {p} came step n =
      record {
        few = omega (arith, u.there);
        long = row-size part n;
        inside = came.within;
        later = omega (arith, came.later, t.later);
        near = omega (arith, t.near);
        read = rw (place-front 256 c a k row part u.start u.wide fits n) (gather-again _ c _ part (from pos bits) (from at bits) _ t.read (sym same-part ∙ came.is));
        rest = place_rest 256 c a k row part old u.start u.wide fits n t.rest;
      }

pub sets_end : {settings : Settings} {b : ℕ} {old : List ℕ} {bits : List Bool} {pos c : ℕ} {row : List ℕ} {at : ℕ} → SetsRead settings b old bits pos c row at → c ≡ channels settings
    → read_sets settings b old (from pos bits) ≡ ok row (from at bits)
unfolding read_sets
sets_end {settings} {b} {old} {bits} {pos} {c} {row} {at} t e = rw (take_all (256 * c) row (omega (arith, t.long)), e) at t.read
