-- The ways that a block's reading ends.
use Prim.Native.Nat.{ℕ, zero, suc, ◌+◌, ◌-◌, ◌≤◌}
use mathlib.Core.Path.{◌≡◌}
use mathlib.Core.Bool.{Bool}
use mathlib.Core.List.{List, ◌++◌}
use native.Mathlib.Omega.{arith}
use lib.ListN.{length, length-drop}
use Rattle.bits.specs.Parts.{joined, piece}
use Rattle.bits.specs.Read.{from, At}
use Rattle.bits.specs.Reading.{fault}
use Rattle.bits.specs.declared.refusal.Refusal.{Refusal}
use Rattle.mantissas.specs.DigitsLaws.{below_all}
use Rattle.mantissas.specs.Inner.{Below, nil, cons}
use Rattle.mantissas.specs.Stream.{read_stream}
use Rattle.allocation.specs.AllocationLaws.{allocated-most}
use Rattle.sheet.specs.Settings.{channels, record_at, end_at}
use Rattle.sheet.specs.LegalSettings.{LegalSettings}
use Rattle.sheet.specs.declared.settings.Settings.{Settings}
use Rattle.frame.specs.Body.{bap_part, bap_row}
use Rattle.frame.specs.Reader.{read_sets, read_block}
use Rattle.frame_reader.specs.Reading.{HeldRows, BlockRead, BlockFault, most_block}
use Rattle.frame_reader.specs.SetsLaws.{rows_next}

-- ---- every bap is at most 15

below-append : {m : ℕ} {xs ys : List ℕ} → Below m xs → Below m ys → Below m (xs ++ ys)
below-append nil b = b
below-append (cons h a) b = cons h (below-append a b)

below-joined : {m : ℕ} (k : ℕ) (f : ℕ → List ℕ) → ((i : ℕ) → Below m (f i)) → Below m (joined k f)
unfolding joined
below-joined zero f h = nil
below-joined (suc k) f h = below-append (below-joined k f h) (h k)

pub baps-below : (settings : Settings) (row : List ℕ) → Below 16 (bap_row settings row)
unfolding bap_row bap_part
baps-below settings row =
    below-joined (channels settings) (λ c. bap_part settings c (piece 256 c row))
    (λ c. below_all _ (λ i h. omega (arith, allocated-most settings.common (record_at settings c).codes (end_at settings c) (piece 256 c row) 256 i)))

-- ---- one block

-- the bits between two positions
between : (bits : List Bool) (p q : ℕ) → p ≤ q → q ≤ length bits → length (from p bits) - length (from q bits) ≡ q - p
unfolding from
between bits p q h l = rw (length-drop p bits, length-drop q bits) (omega arith)

module _ (settings : Settings) (b : ℕ) (old : List ℕ) (bits : List Bool) (pos : ℕ) (row bap codes : List ℕ) where
  -- the sets had a fault
  pub block-bad-sets : (k : Refusal) → read_sets settings b old (from pos bits) ≡ fault k → BlockFault settings b old bits pos k
  unfolding read_block
  block-bad-sets k e = record { is = λ s q. rw (q, e) }

  module _ (at : ℕ) (sets : At (read_sets settings b old (from pos bits)) row bits pos at) (allocated : bap ≡ bap_row settings row) where
    -- the codes had a fault
    pub block-bad-codes : (k : Refusal) → read_stream bap (from at bits) ≡ fault k → BlockFault settings b old bits pos k
    unfolding read_block
    block-bad-codes k e = record { is = λ s q. rw (q, sets.is, rw allocated at e) }

    -- no fault
    pub block-good : (end : ℕ) {before : List ℕ} → LegalSettings settings → HeldRows settings b old before → At (read_stream bap (from at bits)) codes bits at end
        → end ≤ pos + most_block → BlockRead settings b old bits pos row bap codes (record { pos = end; sets = at - pos; stream = end - at })
    unfolding read_block
    block-good end under held stream near =
        record {
          is = λ s q.
              rw (
                q,
                sets.is,
                rw allocated at stream.is,
                between bits pos at sets.later (omega (arith, sets.within)),
                between bits at end stream.later stream.within,
                allocated,
              );
          rows = rw allocated (rows_next settings under b old (from pos bits) row (from at bits) held.row-long held.low sets.is);
          within = stream.within;
          near = near;
        }
