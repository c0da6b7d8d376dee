-- Laws of joined parts: their lengths, a part of the whole, a part that is written, and the turns of a loop that fills a buffer part by part.
use Rattle.std.specs.Prelude.{◌≡◌, refl, List, [], ◌∷◌, ◌++◌, ℕ, zero, suc, ◌+◌, ◌-◌, ◌*◌, ◌≤◌, ◌<◌, length, take, drop, get_or, set}
use Rattle.std.proofs.Common.{sym, ap, ◌∙◌, append_assoc, append-nil, zero-add, suc-add, mul-zero, mul-suc, mul-add, mul-one, mul-le-mul_left, not-suc-le-zero, add-one, arith, length-append, length-take, length-drop, take-add, take_all, take_at, drop_at, take-suc, take-suc-set, drop-drop, length-take-le}
use Rattle.std.proofs.Math.Decide.{dec_le, dec_lt}
use Rattle.std.proofs.Math.ListN.{get_or-append}
use Rattle.std.proofs.lemmas.List.{take-append-le, drop-append-le, get_or_at}
use Rattle.std.proofs.Math.Seq.{take-length}
use Rattle.bits.specs.Parts.{joined, tab, piece}

-- the list l with ys in the place of the k entries from a on
abbrev pub placed : {A : Type 0} → ℕ → ℕ → List A → List A → List A
placed a k l ys = take a l ++ (ys ++ drop k (drop a l))

-- ---- joined

pub joined-zero : {A : Type 0} (f : ℕ → List A) → joined 0 f ≡ []
unfolding joined
joined-zero f = refl

pub joined-more : {A : Type 0} (i : ℕ) (f : ℕ → List A) → joined (i + 1) f ≡ joined i f ++ f i
unfolding joined
joined-more i f = rw add-one

pub joined-cong : {A : Type 0} (f g : ℕ → List A) (k : ℕ) → ((i : ℕ) → i < k → f i ≡ g i) → joined k f ≡ joined k g
unfolding joined
joined-cong f g zero h = refl
joined-cong f g (suc k) h = rw (joined-cong f g k (λ i l. h i (omega arith)), h k (omega arith))

pub joined_length : {A : Type 0} (z : ℕ) (f : ℕ → List A) (k : ℕ) → ((i : ℕ) → i < k → length (f i) ≡ z) → length (joined k f) ≡ z * k
unfolding joined
joined_length z f zero h = sym (mul-zero z)
joined_length z f (suc k) h = rw (length-append, joined_length z f k (λ i l. h i (omega arith)), h k (omega arith), mul-suc)

joined-grows : {A : Type 0} (f : ℕ → List A) (i d : ℕ) → length (joined i f) ≤ length (joined (d + i) f)
unfolding joined
joined-grows f i zero = rw (zero-add i) (omega arith)
joined-grows f i (suc d) = rw (suc-add d i, length-append) (omega (arith, joined-grows f i d))

-- the part i and those before it are not longer than the whole
pub joined-fits : {A : Type 0} (f : ℕ → List A) (i n : ℕ) → i < n → length (joined i f) + length (f i) ≤ length (joined n f)
joined-fits f i n h =
    let q : n ≡ n - (i + 1) + (i + 1) = omega arith in
    let l : length (joined (i + 1) f) ≡ length (joined i f) + length (f i) = ap length (joined-more i f) ∙ length-append (joined i f) (f i) in
    let g : length (joined (i + 1) f) ≤ length (joined n f) = rw q (joined-grows f (i + 1) (n - (i + 1))) in
    omega arith

-- ---- tab and piece

pub length-tab : {A : Type 0} (n : ℕ) (f : ℕ → A) → length (tab n f) ≡ n
unfolding tab
length-tab n f = joined_length 1 (λ i. f i ∷ []) n (λ i h. refl) ∙ omega arith

pub tab-start : {A : Type 0} (f : ℕ → A) (l : List A) → take 0 l ≡ tab 0 f
unfolding tab joined
tab-start f l = refl

-- one more entry stored
pub tab-more : {A : Type 0} (f : ℕ → A) (l : List A) (i : ℕ) (v : A) → i < length l → take i l ≡ tab i f → v ≡ f i → take (i + 1) (set l i v) ≡ tab (i + 1) f
unfolding tab
tab-more f l i v h e q = rw (joined-more i (λ i. f i ∷ []), add-one i, take-suc-set l i v, e, q)

pub tab-end : {A : Type 0} (f : ℕ → A) (l : List A) (i n : ℕ) → i ≡ n → length l ≡ n → take i l ≡ tab i f → l ≡ tab n f
tab-end f l i n q h e = sym (take-length l) ∙ ap (λ (m : ℕ). take m l) (h ∙ sym q) ∙ e ∙ ap (λ (m : ℕ). tab m f) q

pub tab-cong : {A : Type 0} (f g : ℕ → A) (n : ℕ) → ((i : ℕ) → i < n → f i ≡ g i) → tab n f ≡ tab n g
unfolding tab
tab-cong {A} f g n h = joined-cong (λ i. f i ∷ []) (λ i. g i ∷ []) n (λ i l. ap (λ (x : A). x ∷ []) (h i l))

-- a list is its entries
pub tab-list : {A : Type 0} (d : A) (l : List A) (n : ℕ) → n ≤ length l → tab n (λ i. get_or l i d) ≡ take n l
unfolding tab joined
tab-list d l zero h = refl
tab-list {A} d l (suc n) h = ap (λ (t : List A). t ++ (get_or l n d ∷ [])) (tab-list d l n (omega arith)) ∙ sym (take-suc l n d (omega arith))

-- the first i pieces
pub pieces : (z : ℕ) (l : List ℕ) (i : ℕ) → joined i (λ j. piece z j l) ≡ take (z * i) l
unfolding joined piece
pieces z l zero = rw (mul-zero z)
pieces z l (suc i) = rw (pieces z l i, mul-suc z i, take-add (z * i) z l)

pub pieces-all : (z : ℕ) (l : List ℕ) (k : ℕ) → length l ≡ z * k → joined k (λ j. piece z j l) ≡ l
pieces-all z l k h = pieces z l k ∙ ap (λ (m : ℕ). take m l) (sym h) ∙ take-length l

pub length-piece : (z i : ℕ) (l : List ℕ) → z * (i + 1) ≤ length l → length (piece z i l) ≡ z
unfolding piece
length-piece z i l h = rw (length-take, length-drop) (omega (arith, mul-add z i 1, mul-one z))

joined-split : (f : ℕ → List ℕ) (i d : ℕ) → joined (d + i) f ≡ joined i f ++ joined d (λ j. f (j + i))
unfolding joined
joined-split f i zero = rw (zero-add i, append-nil)
joined-split f i (suc d) = rw (suc-add d i, joined-split f i d, append_assoc)

-- a piece of what is joined
pub piece-joined : (z : ℕ) (f : ℕ → List ℕ) (k i : ℕ) → ((j : ℕ) → j < k → length (f j) ≡ z) → i < k → piece z i (joined k f) ≡ f i
unfolding piece
piece-joined z f k i h l =
    let q : k ≡ k - (i + 1) + (i + 1) = omega arith in
    let r = joined (k - (i + 1)) (λ j. f (j + (i + 1))) in
    let e : joined k f ≡ joined i f ++ (f i ++ r) =
    ap (λ (m : ℕ). joined m f) q ∙ joined-split f (i + 1) (k - (i + 1)) ∙ ap (λ (t : List ℕ). t ++ r) (joined-more i f) ∙ append_assoc (joined i f) (f i) r in
    rw (e, drop_at (joined i f) (f i ++ r) (z * i) (joined_length z f i (λ j m. h j (omega arith))), take_at (f i) r z (h i l))

-- ---- a part that is written

module _ {A : Type 0} (l ys : List A) (a k : ℕ) (h : a + k ≤ length l) (n : length ys ≡ k) where
  front_length : length (take a l ++ ys) ≡ a + k
  front_length = rw (length-append, length-take-le a l (omega arith), n)

  pub placed-front : take (a + k) (placed a k l ys) ≡ take a l ++ ys
  placed-front = rw (← append_assoc (take a l) ys (drop k (drop a l)), take_at (take a l ++ ys) (drop k (drop a l)) (a + k) front_length)

  pub placed-rest : drop (a + k) (placed a k l ys) ≡ drop (a + k) l
  placed-rest =
      rw (← append_assoc (take a l) ys (drop k (drop a l)), drop_at (take a l ++ ys) (drop k (drop a l)) (a + k) front_length) (drop-drop k a l)

  pub placed-length : length (placed a k l ys) ≡ length l
  placed-length = rw (length-append, length-append, length-take-le a l (omega arith), n, length-drop, length-drop) (omega arith)

pub get_or-tab : (n : ℕ) (f : ℕ → ℕ) (i : ℕ) → i < n → get_or (tab n f) i 0 ≡ f i
unfolding tab joined
get_or-tab zero f i h = absurd (not-suc-le-zero h)
get_or-tab (suc n) f i h = go (dec_le (suc i) n) (get_or-tab n f i)
  where
    go : Dec (suc i ≤ n) → (suc i ≤ n → get_or (tab n f) i 0 ≡ f i) → get_or (tab n f ++ (f n ∷ [])) i 0 ≡ f i
    go (yes l) r = get_or-append (tab n f) (f n ∷ []) 0 i (omega (arith, length-tab n f, l)) ∙ r l
    go (no l) r =
        let e : i ≡ n = omega (arith, l) in
        rw (e) (get_or_at (tab n f) (f n) [] 0 n (length-tab n f))

-- ---- the turns of a loop over parts

-- a piece i of k ends within
pub within : (z i k : ℕ) → i < k → z * i + z ≤ z * k
within z i k h = omega (arith, mul-le-mul_left z h, mul-add z i 1, mul-one z)

-- the part that is lent is the piece
pub part-is : {A : Type 0} (z i a k : ℕ) (l : List A) → a ≡ z * i → k ≡ z → take k (drop a l) ≡ piece z i l
unfolding piece
part-is z i a k l ea ek = rw (ea, ek)

pub part-long : {A : Type 0} (z i a k : ℕ) (l : List A) → a ≡ z * i → k ≡ z → z * i + z ≤ length l → length (take k (drop a l)) ≡ z
part-long z i a k l ea ek h = rw (length-take, length-drop) (omega arith)

-- filled up to piece i, then piece i
pub fill_start : {A : Type 0} (z a : ℕ) (f : ℕ → List A) (l : List A) → a ≡ 0 → take a l ≡ joined 0 f
unfolding joined
fill_start z a f l e = rw e

pub fill_more : {A : Type 0} (z i a k : ℕ) (f : ℕ → List A) (l ys : List A) → a ≡ z * i → k ≡ z → z * i + z ≤ length l → length ys ≡ z
    → take (z * i) l ≡ joined i f → ys ≡ f i → take (z * (i + 1)) (placed a k l ys) ≡ joined (i + 1) f
fill_more z i a k f l ys ea ek h n e q =
    let m : z * (i + 1) ≡ a + k = omega (arith, mul-add z i 1, mul-one z) in
    rw (m, placed-front l ys a k (omega arith) (omega arith), joined-more i f, ea, e, q)

pub fill-length : {A : Type 0} (z i a k : ℕ) (l ys : List A) → a ≡ z * i → k ≡ z → z * i + z ≤ length l → length ys ≡ z → length (placed a k l ys) ≡ length l
fill-length z i a k l ys ea ek h n = placed-length l ys a k (omega arith) (omega arith)

pub fill_end : {A : Type 0} (z i k : ℕ) (f : ℕ → List A) (l : List A) → i ≡ k → length l ≡ z * k → take (z * i) l ≡ joined i f → l ≡ joined k f
fill_end z i k f l q h e =
    sym (take-length l) ∙ ap (λ (m : ℕ). take m l) (h ∙ ap (λ (m : ℕ). z * m) (sym q)) ∙ e ∙ ap (λ (m : ℕ). joined m f) q

-- ---- parts before and behind the one that is written

-- the front after one part more
pub place-front : {A : Type 0} (z i a k : ℕ) (l ys : List A) → a ≡ z * i → k ≡ z → z * i + z ≤ length l → length ys ≡ z
    → take (z * (i + 1)) (placed a k l ys) ≡ take (z * i) l ++ ys
place-front z i a k l ys ea ek h n =
    let m : z * (i + 1) ≡ a + k = omega (arith, mul-add z i 1, mul-one z) in
    rw (m, placed-front l ys a k (omega arith) (omega arith), ea)

-- a part that is still as it was
pub part-old : {A : Type 0} (z i a k : ℕ) (l old : List A) → a ≡ z * i → k ≡ z → drop (z * i) l ≡ drop (z * i) old → take k (drop a l) ≡ piece z i old
unfolding piece
part-old z i a k l old ea ek e = rw (ea, e, ek)

-- a part filled: what stands behind it is still as it was
pub place_rest : {A : Type 0} (z i a k : ℕ) (l ys old : List A) → a ≡ z * i → k ≡ z → z * i + z ≤ length l → length ys ≡ z → drop (z * i) l ≡ drop (z * i) old
    → drop (z * (i + 1)) (placed a k l ys) ≡ drop (z * (i + 1)) old
place_rest z i a k l ys old ea ek h n e =
    let m : z * (i + 1) ≡ a + k = omega (arith, mul-add z i 1, mul-one z) in
    let q : z * (i + 1) ≡ z * i + z = omega (arith, mul-add z i 1, mul-one z) in
    let x : drop (a + k) (placed a k l ys) ≡ drop (a + k) l = placed-rest l ys a k (omega arith) (omega arith) in
    let y : drop (z * (i + 1)) l ≡ drop (z * (i + 1)) old = rw (q, ← drop-drop z (z * i) l, e) (drop-drop z (z * i) old) in
    rw m (x ∙ (rw m at y))

-- the front of a local array, filled and taken again
pub front-taken : (n k : ℕ) (l ys : List ℕ) → k ≡ n → length ys ≡ n → take k (ys ++ drop k l) ≡ ys
front-taken n k l ys e h = take_at ys (drop k l) k (h ∙ sym e)

-- ---- parts that are put behind each other

-- those before the last
pub piece-front : (z i : ℕ) (xs ys : List ℕ) → z * i + z ≤ length xs → piece z i (xs ++ ys) ≡ piece z i xs
unfolding piece
piece-front z i xs ys h =
    let n : z ≤ length (drop (z * i) xs) = rw length-drop (omega arith) in
    rw (drop-append-le (z * i) xs ys (omega arith), take-append-le z (drop (z * i) xs) ys n)

-- the last
pub piece-last : (z i : ℕ) (xs ys : List ℕ) → length xs ≡ z * i → length ys ≡ z → piece z i (xs ++ ys) ≡ ys
unfolding piece
piece-last z i xs ys h l = rw (drop_at xs ys (z * i) h, take_all z ys (omega arith))

-- one more part: what holds of each part before it and of it holds of the parts of the whole
pub parts_more : (z k : ℕ) (P : ℕ → List ℕ → Type 0) (xs v : List ℕ) → length xs ≡ z * k → length v ≡ z → ((i : ℕ) → i < k → P i (piece z i xs)) → P k v
    → (i : ℕ) → i < suc k → P i (piece z i (xs ++ v))
parts_more z k P xs v n m before last i l = by_place (dec_lt i k)
  where
    by_place : Dec (i < k) → P i (piece z i (xs ++ v))
    by_place (yes b) = rw (piece-front z i xs v (omega (arith, within z i k b))) (before i b)
    by_place (no b) =
        let e : i ≡ k = omega (arith, b) in
        rw (e, piece-last z k xs v n m) last
