-- The test of cause 5 in the form in which the code makes it (document 01, "When a call is turned back").
use Rattle.std.specs.Prelude.{ℕ, Bool, List}
use Rattle.mantissas.specs.Stream.{coded}
use Rattle.sheet.specs.Ranges.{all_below}
use Rattle.sheet.specs.declared.settings.Settings.{Settings}
use Rattle.frame.specs.Layout.{row_of}

-- cause 5: each block's codes are in range for its bap, both as they stand in a buffer
unfoldable pub rows_coded : Settings → List ℕ → List ℕ → Bool
rows_coded settings bap codes = all_below 6 (λ b. coded (row_of settings b bap) (row_of settings b codes))
