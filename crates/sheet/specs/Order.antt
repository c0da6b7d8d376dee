-- The order of a track sheet's records, document 02, W1.
use Rattle.std.specs.Prelude.{ℕ, List, [], ◌∷◌, Bool, true, ◌&&◌, ltb}
use Rattle.sheet.specs.Grammar.{records_of}
use Rattle.sheet.specs.Record.{channel_of}

-- each record's channel number is below that of the next
abbrev pub ascending : List (List ℕ) → Bool
ascending [] = true
ascending (r ∷ []) = true
ascending (r ∷ q ∷ rs) = ltb (channel_of r) (channel_of q) && ascending (q ∷ rs)

-- "Channel records now come in ascending channel number": the LFE, which is channel n, comes last
abbrev pub in_order : List ℕ → Bool
in_order s = ascending (records_of s)
