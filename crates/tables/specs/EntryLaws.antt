-- What an entry of any table is: past the end 0, and the table's own in its first entries and in a copy that a caller lends.
use Rattle.std.specs.Prelude.{ℕ, ◌≤◌, ◌<◌, List, ◌≡◌, get_or, length, take}
use Rattle.std.proofs.Common.{ap, get_or-take}
use Rattle.std.proofs.Math.ListN.{get_or-eq_default}
use Rattle.tables.specs.Entry.{entry}

pub entry_past : (table : List ℕ) (i : ℕ) → length table ≤ i → entry table i ≡ 0
unfolding entry
entry_past table i h = get_or-eq_default table 0 h

pub entry-take : (n : ℕ) (table : List ℕ) (i : ℕ) → i < n → entry (take n table) i ≡ entry table i
unfolding entry
entry-take n table i h = get_or-take n table i 0 h

pub entry-lent : (copy table : List ℕ) (i : ℕ) → copy ≡ table → get_or copy i 0 ≡ entry table i
unfolding entry
entry-lent copy table i e = ap (λ (l : List ℕ). get_or l i 0) e
