-- What holds of each bap, by computing it for all sixteen.
use Rattle.std.specs.Prelude.{cond, ◌≡◌, ℕ, ◌^◌, ◌≤◌, ◌<◌, leb, eqb}
use Rattle.std.proofs.Common.{arith, leb→le, eqb→eq, pow_pos}
use Rattle.tables.specs.Computed.{at-index}
use Rattle.tables.specs.Entry.{entry}
use Rattle.tables.specs.Quantizer.{quantization_bits, level_count}
use Rattle.tables.proofs.Rules.{level_count-power}
use Rattle.mantissas.specs.Ranges.{levels, group_sizes, size, width}

pub record Row (b : ℕ) : Type 0 where
  pub size-least : 1 ≤ size b
  pub size-most : size b ≤ 3
  pub levels-least : 1 ≤ levels b
  pub levels-most : levels b ≤ 65536
  pub width-most : width b ≤ 16
  -- a group's value fits its field
  pub fits : levels b ^ size b ≤ 2 ^ width b
  pub whole : levels b ^ size b ≤ 65536

pub row : (b : ℕ) → b < 16 → Row b
unfolding size group_sizes levels level_count width quantization_bits entry
row b h =
    record {
      size-least = leb→le _ _ (at-index 16 (λ (k : ℕ). leb 1 (size k)) tt b h);
      size-most = leb→le _ _ (at-index 16 (λ (k : ℕ). leb (size k) 3) tt b h);
      levels-least = leb→le _ _ (at-index 16 (λ (k : ℕ). leb 1 (levels k)) tt b h);
      levels-most = leb→le _ _ (at-index 16 (λ (k : ℕ). leb (levels k) 65536) tt b h);
      width-most = leb→le _ _ (at-index 16 (λ (k : ℕ). leb (width k) 16) tt b h);
      fits = leb→le _ _ (at-index 16 (λ (k : ℕ). leb (levels k ^ size k) (2 ^ width k)) tt b h);
      whole = leb→le _ _ (at-index 16 (λ (k : ℕ). leb (levels k ^ size k) 65536) tt b h);
    }

-- three codes of bap 1 share a field, three of bap 2 and two of bap 4; a code of any other bap has one of its own
pub size_cases : (b : ℕ) → b < 16 → size b ≡ cond (eqb b 1) 3 (cond (eqb b 2) 3 (cond (eqb b 4) 2 1))
unfolding size group_sizes entry
size_cases b h = eqb→eq _ _ (at-index 16 (λ (k : ℕ). eqb (size k) (cond (eqb k 1) 3 (cond (eqb k 2) 3 (cond (eqb k 4) 2 1)))) tt b h)

-- from bap 6 on every value of the field is a code
pub levels-power : (b : ℕ) → 6 ≤ b → b < 16 → levels b ≡ 2 ^ width b
unfolding levels width
levels-power b l h = omega (arith, level_count-power b l h, pow_pos (entry quantization_bits b))
