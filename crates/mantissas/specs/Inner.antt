-- Contracts of the inner functions: baps and codes in their ranges, the value of the group that begins at a bin, and what reading a group's
-- field gives.
use Rattle.std.specs.Prelude.{◌≡◌, Bool, List, [], ◌∷◌, ℕ, ◌+◌, ◌≤◌, ◌<◌, length, drop, get_or, Result, MatchResult}
use Rattle.bits.specs.Read.{from}
use Rattle.bits.specs.Reading.{ok, fault}
use Rattle.bits.specs.declared.read.Fault.{Fault}
use Rattle.mantissas.specs.Ranges.{levels, width}
use Rattle.mantissas.specs.Stream.{of_bap, group_code, read_group}
use Rattle.tables.specs.Entry.{entry}

-- each entry is below m, as the codes of a bap are below its levels and baps are below 16
pub data Below (m : ℕ) : List ℕ → Type 0 where
  nil : Below m []
  cons : {x : ℕ} {l : List ℕ} → x < m → Below m l → Below m (x ∷ l)

-- a table of the levels by bap
abbrev pub LevelTable : List ℕ → Type 0
LevelTable table = (length table ≡ 16) × ((b : ℕ) → b < 16 → entry table b ≡ levels b)

-- as many codes as baps, each bap at most 15, each code one of its bap's: `coded` of Stream.antt as a type (CodedLaws.antt)
pub data Coded : List ℕ → List ℕ → Type 0 where
  empty : Coded [] []
  bin : {b c : ℕ} {bs cs : List ℕ} → b < 16 → c < levels b → Coded bs cs → Coded (b ∷ bs) (c ∷ cs)

-- the value of the field that begins at bin i
unfoldable pub group_at : ℕ → List ℕ → List ℕ → ℕ
group_at i bs cs = group_code (get_or bs i 0) (of_bap (get_or bs i 0) (drop i bs) (drop i cs))

-- v is the group's value in the field of bap b at pos
pub record GroupAt (b : ℕ) (bits : List Bool) (pos v : ℕ) : Type 0 where
  pub is : read_group b (from pos bits) ≡ ok v (from (pos + width b) bits)
  pub there : pos + width b ≤ length bits

-- that is what reading the field gives, or it gives the reader's fault, which is met at the field
abbrev pub GroupRead : ℕ → List Bool → ℕ → Result ℕ Fault → Type 0
GroupRead b bits pos result = MatchResult result (λ v. GroupAt b bits pos v) (λ f. (read_group b (from pos bits) ≡ fault f.refusal) × (f.pos ≡ pos))
