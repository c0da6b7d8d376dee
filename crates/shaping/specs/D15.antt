-- What `preprocess_d15` leaves, pass by pass as the Rust goes (document 01, "Exponents"; A/52 7.1.3). That it is the "greatest sequence not above
-- the input" is shown in ShapedLaws.antt: `preprocessed-greatest`, `preprocessed-only`.
use Rattle.std.specs.Prelude.{List, [], ◌∷◌, ℕ, ◌+◌, ◌-◌, min, max}

-- the most that a bin before y may hold: 2 above y, and at most 24
abbrev pub roof : ℕ → ℕ
roof y = min (y + 2) 24

-- x, held under what stands after it; the last stays
abbrev pub under : ℕ → List ℕ → ℕ
under x [] = x
under x (y ∷ r) = min x (roof y)

-- the backward pass: from the last bin on, each is held under the one after it
unfoldable pub backward : List ℕ → List ℕ
backward [] = []
backward (x ∷ r) = under x (backward r) ∷ backward r

-- x held within 2 of p, and at most 24
abbrev pub held : ℕ → ℕ → ℕ
held p x = min (max (p - 2) (min x (p + 2))) 24

-- the forward pass after a bin that became p: each is held within 2 of the one before it
unfoldable pub forward : ℕ → List ℕ → List ℕ
forward p [] = []
forward p (x ∷ r) = held p x ∷ forward (held p x) r

-- the first bin, before what follows it: at most 2 above the next one, and at most its limit
abbrev pub first : ℕ → ℕ → List ℕ → ℕ
first limit x [] = min x limit
first limit x (y ∷ r) = min x (min (y + 2) limit)

-- the backward pass, the first bin, the forward pass
unfoldable pub limited : ℕ → List ℕ → List ℕ
limited limit [] = []
limited limit (x ∷ r) = first limit x (backward r) ∷ forward (first limit x (backward r)) (backward r)

-- what `preprocess_d15` leaves: bin 0 is at most 15, which 4 bits hold
abbrev pub d15 : List ℕ → List ℕ
d15 xs = limited 15 xs
