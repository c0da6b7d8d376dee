-- The check of small sheets, computed: 1 before 2 before 11. And what a sheet sets, whatever the order of its records.
use Rattle.std.specs.Prelude.{ℕ, ◌≡◌, refl, Ok, Err, List, [], ◌∷◌, ◌++◌, false}
use Rattle.bits.specs.declared.refusal.Refusal.TheVariants as refusal
use Rattle.sheet.specs.Sheet.{check_of, check_beside}
use Rattle.sheet.specs.Settings.{settings_of}

-- two records after the head, which says how many bytes follow the length, n and lfe; all else in it is 0
abbrev two : (follow n lfe : ℕ) → List ℕ → List ℕ → List ℕ
two follow n lfe first second = (0 ∷ follow ∷ 1 ∷ 0 ∷ n ∷ lfe ∷ 0 ∷ 0 ∷ 0 ∷ 0 ∷ 0 ∷ 0 ∷ []) ++ first ++ second

-- D15 in block 0, then reuse; no segment
abbrev plain : (channel end : ℕ) → List ℕ
plain channel end = channel ∷ end ∷ 1 ∷ 0 ∷ 0 ∷ 0 ∷ 0 ∷ 0 ∷ 0 ∷ 0 ∷ 0 ∷ []

in_order : check_of (two 32 2 0 (plain 0 37) (plain 1 40)) ≡ Ok tt
in_order = refl

swapped : check_of (two 32 2 0 (plain 1 40) (plain 0 37)) ≡ Err refusal.OutOfOrder
swapped = refl

lfe-last : check_of (two 32 1 1 (plain 0 37) (plain 1 7)) ≡ Ok tt
lfe-last = refl

lfe-first : check_of (two 32 1 1 (plain 1 7) (plain 0 37)) ≡ Err refusal.OutOfOrder
lfe-first = refl

-- channel 0 twice: channel 1 is missing
twice : check_of (two 32 2 0 (plain 0 37) (plain 0 40)) ≡ Err refusal.OutOfRange
twice = refl

swapped-and-range : check_of (two 32 2 0 (plain 1 40) (plain 0 38)) ≡ Err refusal.OutOfRange
swapped-and-range = refl

-- the length says one byte more than there is
swapped-and-length : check_of (two 33 2 0 (plain 1 40) (plain 0 37)) ≡ Err refusal.Structure
swapped-and-length = refl

-- a number of the call that is out of its range
swapped-and-number : check_beside false (two 32 2 0 (plain 1 40) (plain 0 37)) ≡ Err refusal.OutOfRange
swapped-and-number = refl

same-settings : settings_of (two 32 2 0 (plain 1 40) (plain 0 37)) ≡ settings_of (two 32 2 0 (plain 0 37) (plain 1 40))
unfolding settings_of
same-settings = refl
