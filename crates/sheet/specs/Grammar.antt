-- The structure of a track sheet, document 01, "The track sheet": the bytes before the records, the length, the version,
-- and the records. A sheet is a list of bytes; what is read past the end of a list is 0.
use Rattle.std.specs.Prelude.{ℕ, zero, suc, ◌+◌, ◌-◌, ◌*◌, List, [], ◌∷◌, Bool, true, ◌&&◌, length, get_or, take, drop, leb, eqb}

-- length (2), version, fscod, n, lfe, sdcycod, fdcycod, sgaincod, dbpbcod, floorcod, csnroffst: the records start after twelve bytes
abbrev pub head_size : ℕ
head_size = 12

-- "big-endian: length (2 bytes, counting what follows it)"
abbrev pub length_of : List ℕ → ℕ
length_of s = 256 * get_or s 0 0 + get_or s 1 0

abbrev pub version_of : List ℕ → ℕ
version_of s = get_or s 2 0

-- how many segments the record says that it has: nseg stands behind channel, end, six strategies, fsnroffst and fgaincod
abbrev pub nseg_of : List ℕ → ℕ
nseg_of r = get_or r 10 0

-- the bytes of the record that l begins with: those eleven, and nseg times offst, len and ba
abbrev pub record_size : List ℕ → ℕ
record_size l = 11 + 3 * nseg_of l

-- "Records are counted off until the length is used up, nseg taken as it is written, before any range is looked at":
-- the records that stand in a list of bytes, after k bytes that still belong to the record before them;
-- where the bytes end too early, the last record is cut short
abbrev pub count_off : ℕ → List ℕ → List (List ℕ)
count_off k [] = []
count_off zero (x ∷ xs) = take (record_size (x ∷ xs)) (x ∷ xs) ∷ count_off (record_size (x ∷ xs) - 1) xs
count_off (suc k) (x ∷ xs) = count_off k xs

-- the records from a byte on
abbrev pub records_from : List ℕ → ℕ → List (List ℕ)
records_from s at = count_off 0 (drop at s)

-- the records of a sheet, each as its bytes, in the order in which they stand
abbrev pub records_of : List ℕ → List (List ℕ)
records_of s = records_from s head_size

-- f holds of each record
abbrev pub every : (List ℕ → Bool) → List (List ℕ) → Bool
every f [] = true
every f (r ∷ rs) = f r && every f rs

-- the record is not cut short
abbrev pub is_whole : List ℕ → Bool
is_whole r = eqb (length r) (record_size r)

-- not "fewer than 12 bytes", nor "length not matching the bytes" (document 01, "When a call is turned back", 1)
abbrev pub length_matches : List ℕ → Bool
length_matches s = leb head_size (length s) && eqb (length s) (2 + length_of s)

-- nor another version than 1, nor "a record cut short": the structure is right
abbrev pub structured : List ℕ → Bool
structured s = length_matches s && eqb (version_of s) 1 && every is_whole (records_of s)
