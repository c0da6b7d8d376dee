-- The number of each bap told, and from bap 6 on that of the values of its field; with the bounds of all.
use mathlib.Core.Path.{◌≡◌, sym, ◌∙◌}
use Prim.Native.Nat.{ℕ, ◌*◌, ◌^◌, ◌%◌, ◌≤◌, ◌<◌}
use native.Mathlib.Nat.{one-mul}
use native.Mathlib.Omega.{arith}
use lib.Pow.{shl_exact}
use Rattle.tables.specs.Entry.{entry}
use Rattle.tables.specs.Quantizer.{level_count}
use Rattle.mantissas.specs.Ranges.{levels, width}
use Rattle.mantissas.specs.RangesLaws.{row, levels-power}
use Rattle.mantissas.proofs.code.levels.Goals as goal

abbrev Counted : ℕ → ℕ → Type 0
Counted b n = (n ≡ levels b) × ((1 ≤ n) × (n ≤ 65536))

counted : (b n : ℕ) → b < 16 → n ≡ levels b → Counted b n
counted b n h e = (e, rw e ((row b h).levels-least, (row b h).levels-most))

wide : (b n : ℕ) → 6 ≤ b → b < 16 → n ≡ width b → Counted b (1 * 2 ^ n % 4294967296)
wide b n l h e = counted _ _ h (rw e (shl_exact 1 (width b) 32 (omega arith) (omega (arith, (row b h).width-most)) ∙ one-mul (2 ^ width b) ∙ sym (levels-power b l h)))

pub returns-in_default : goal.returns-in_default
unfolding levels level_count entry
returns-in_default c =
    let all = wide _ _ (omega arith) c.requires c.width.ensures.value in
    record { value = all.0; lower_bound = all.1 }
