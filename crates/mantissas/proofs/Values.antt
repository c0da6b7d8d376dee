-- How many values some codes of a group have: the powers of a bap's levels.
use mathlib.Core.Path.{◌≡◌, sym, ◌∙◌}
use Prim.Native.Nat.{ℕ, ◌*◌, ◌^◌, ◌≤◌, ◌<◌}
use native.Mathlib.Nat.{pow-zero, pow-suc, one-mul, one-le-pow, pow-le-pow_right, le_trans}
use Rattle.mantissas.specs.Ranges.{size, levels}
use Rattle.mantissas.specs.RangesLaws.{row}

pub bounded : (b n : ℕ) → b < 16 → n ≤ size b → (1 ≤ levels b ^ n) × (levels b ^ n ≤ 65536)
bounded b n h l =
    let r = row b h in
    (one-le-pow n (levels b) r.levels-least, le_trans (pow-le-pow_right r.levels-least l) r.whole)

pub pow-one : (m : ℕ) → m ^ 1 ≡ m
pow-one m = pow-suc m 0 ∙ rw (pow-zero m) (one-mul m)

pow-two : (m : ℕ) → m ^ 2 ≡ m * m
pow-two m = pow-suc m 1 ∙ rw (pow-one m)

pow-three : (m : ℕ) → m ^ 3 ≡ m * m * m
pow-three m = pow-suc m 2 ∙ rw (pow-two m)

pub value-is : (b n r : ℕ) → b < 16 → n ≤ size b → r ≡ levels b ^ n → (r ≡ levels b ^ n) × ((1 ≤ r) × (r ≤ 65536))
value-is b n r h l e = (e, rw e (bounded b n h l))

pub one_left : (m n r : ℕ) → n ≡ 1 → r ≡ m → r ≡ m ^ n
one_left m n r e f = rw (e, f) (sym (pow-one m))

pub two-left : (m n r : ℕ) → n ≡ 2 → r ≡ m → r * r ≡ m ^ n
two-left m n r e f = rw (e, f) (sym (pow-two m))

pub three-left : (m n r : ℕ) → n ≡ 3 → r ≡ m → r * r * r ≡ m ^ n
three-left m n r e f = rw (e, f) (sym (pow-three m))
