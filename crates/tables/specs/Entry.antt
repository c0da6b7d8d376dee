-- How a definition or a contract names an entry of any table: `entry latab i`, `entry (row hth fscod) band`.
use Rattle.std.specs.Prelude.{ℕ, List, [], get_or}

-- entry i; past the end 0
unfoldable pub entry : List ℕ → ℕ → ℕ
entry table i = get_or table i 0

-- row i of a table of rows; past the end the empty one
unfoldable pub row : List (List ℕ) → ℕ → List ℕ
row table i = get_or table i []
