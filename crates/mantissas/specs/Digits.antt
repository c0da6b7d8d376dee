-- A group's value and its codes (A/52 7.3.5): numbers by their digits to a base, the highest first.
use Rattle.std.specs.Prelude.{List, [], ◌∷◌, ℕ, zero, suc, ◌+◌, ◌*◌, ◌/◌, ◌%◌, ◌^◌, length}

-- the number with these digits to the base m: 9a + 3b + c, 25a + 5b + c and 11a + b for the groups of bap 1, 2 and 4 (`packed` of the Rust)
unfoldable pub pack : ℕ → List ℕ → ℕ
pack m [] = 0
pack m (c ∷ cs) = c * m ^ length cs + pack m cs

-- the n digits of a number: of a triple with m levels M / m^2, (M % m^2) / m and the rest
unfoldable pub digits : ℕ → ℕ → ℕ → List ℕ
digits m zero v = []
digits m (suc n) v = v / m ^ n ∷ digits m n (v % m ^ n)

-- the first n of a list, 0 where there are fewer (document 01, "missing members are 0")
unfoldable pub padded : ℕ → List ℕ → List ℕ
padded zero l = []
padded (suc n) [] = 0 ∷ padded n []
padded (suc n) (x ∷ l) = x ∷ padded n l
