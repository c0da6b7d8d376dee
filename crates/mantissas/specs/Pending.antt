-- What the reader keeps for each bap (src/reader.rt), as the codes that wait.
use Rattle.std.specs.Prelude.{List, ℕ}
use Rattle.mantissas.specs.Digits.{digits}
use Rattle.mantissas.specs.Ranges.{levels}
use Rattle.mantissas.specs.declared.reader.Pending.{Pending}

-- the codes of bap b that wait
unfoldable pub waiting : ℕ → Pending → List ℕ
waiting b p = digits (levels b) p.left p.value
