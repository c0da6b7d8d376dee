-- Laws of the order: records in ascending channel number, one for each of n channels, are those of channels 0, 1, .. n - 1 as they stand.
use Rattle.std.specs.Prelude.{ℕ, zero, suc, ◌+◌, ◌≤◌, ◌<◌, ◌≡◌, refl, List, [], ◌∷◌, Bool, true, ◌&&◌, length, get_or, ltb, leb}
use Rattle.std.proofs.Common.{ap, ◌∙◌, arith, lt-ltb, le-ltb, leb-true, le-leb, eq-eqb, ne_eqb}
use Rattle.std.proofs.Math.Decide.{dec_lt}
use Rattle.std.proofs.lemmas.Bool.{lt-leb}
use Rattle.bits.specs.Tests.{both}
use Rattle.sheet.specs.Grammar.{every}
use Rattle.sheet.specs.Record.{channel_of}
use Rattle.sheet.specs.Ranges.{of_channel}
use Rattle.sheet.specs.Order.{ascending}

-- ---- the order as a loop tests it: with the least channel that may come next

abbrev pub ascending_from : ℕ → List (List ℕ) → Bool
ascending_from least [] = true
ascending_from least (r ∷ rs) = leb least (channel_of r) && ascending_from (channel_of r + 1) rs

below-is : (a b : ℕ) → ltb a b ≡ leb (a + 1) b
below-is a b = by_cases (dec_lt a b)
  where
    by_cases : Dec (a < b) → ltb a b ≡ leb (a + 1) b
    by_cases (yes h) = rw (lt-ltb a b h, le-leb (a + 1) b (omega arith))
    by_cases (no h) = rw (le-ltb a b (omega (arith, h)), lt-leb (a + 1) b (omega (arith, h)))

ascending-behind : (r : List ℕ) (rs : List (List ℕ)) → ascending (r ∷ rs) ≡ ascending_from (channel_of r + 1) rs
ascending-behind r [] = refl
ascending-behind r (q ∷ rs) = rw (below-is (channel_of r) (channel_of q), ascending-behind q rs)

pub ascending-from : (rs : List (List ℕ)) → ascending rs ≡ ascending_from 0 rs
ascending-from [] = refl
ascending-from (r ∷ rs) = rw (le-leb 0 (channel_of r) (omega arith)) (ascending-behind r rs)

-- ---- the records are those of channels k, k + 1, .. n - 1 as they stand

pub data Numbered (n : ℕ) : ℕ → List (List ℕ) → Type 0 where
  none : {k : ℕ} → k ≡ n → Numbered n k []
  next : {k : ℕ} {r : List ℕ} {rs : List (List ℕ)} → channel_of r ≡ k → Numbered n (suc k) rs → Numbered n k (r ∷ rs)

module _ {n : ℕ} where
  pub numbered-length : {k : ℕ} {rs : List (List ℕ)} → Numbered n k rs → k + length rs ≡ n
  numbered-length (none e) = omega (arith, e)
  numbered-length (next e more) = omega (arith, numbered-length more)

  pub channel-at : {k : ℕ} {rs : List (List ℕ)} → Numbered n k rs → (i : ℕ) → i < length rs → channel_of (get_or rs i []) ≡ k + i
  channel-at (none e) i b = absurd (omega arith)
  channel-at (next e more) zero b = omega (arith, e)
  channel-at (next e more) (suc i) b = omega (arith, channel-at more i (omega arith))

  numbered-from : {k : ℕ} {rs : List (List ℕ)} → Numbered n k rs → ascending_from k rs ≡ true
  numbered-from (none e) = refl
  numbered-from {k} (next {r} {rs} e more) =
      let behind : suc k ≡ channel_of r + 1 = omega (arith, e) in
      rw (le-leb k (channel_of r) (omega (arith, e)), ← behind) (numbered-from more)

  none_before : {k : ℕ} {rs : List (List ℕ)} → Numbered n k rs → (c : ℕ) → c < k → of_channel c rs ≡ []
  none_before (none e) c b = refl
  none_before (next {r} e more) c b = rw (ne_eqb (channel_of r) c (λ q. omega (arith, e, q))) (none_before more c (omega arith))

  -- no record has a number past the last
  pub none-past : {k : ℕ} {rs : List (List ℕ)} → Numbered n k rs → (c : ℕ) → n ≤ c → of_channel c rs ≡ []
  none-past (none e) c b = refl
  none-past (next {r} e more) c b = rw (ne_eqb (channel_of r) c (λ q. omega (arith, e, q, numbered-length more))) (none-past more c b)

  -- the record with a channel's number is the one at its place
  pub of_number : {k : ℕ} {rs : List (List ℕ)} → Numbered n k rs → (c i : ℕ) → c ≡ k + i → i < length rs → of_channel c rs ≡ get_or rs i [] ∷ []
  of_number (none e) c i q b = absurd (omega arith)
  of_number (next {r} e more) c zero q b = rw (eq-eqb (channel_of r) c (omega (arith, e)), none_before more c (omega (arith, e)))
  of_number (next {r} e more) c (suc i) q b = rw (ne_eqb (channel_of r) c (λ z. omega (arith, e, z))) (of_number more c i (omega (arith, q)) (omega arith))

pub numbered-ascending : {n : ℕ} {rs : List (List ℕ)} → Numbered n 0 rs → ascending rs ≡ true
numbered-ascending {n} {rs} h = ascending-from rs ∙ numbered-from h

-- n - k records, each with the number of its place from k on
pub numbered-places : (n k : ℕ) (rs : List (List ℕ)) → k + length rs ≡ n → ((i : ℕ) → i < length rs → channel_of (get_or rs i []) ≡ k + i) → Numbered n k rs
numbered-places n k [] e h = none {k = k} (omega (arith, e))
numbered-places n k (r ∷ rs) e h =
    let first : channel_of r ≡ k = omega (arith, h 0 (omega arith)) in
    next first
    (numbered-places n (suc k) rs (omega (arith, e)) (λ i b. omega (arith, h (suc i) (omega arith))))

-- ---- what the tests show: the records ascend, each channel has one, and no other channel has

none_below : (c least : ℕ) (rs : List (List ℕ)) → c < least → ascending_from least rs ≡ true → of_channel c rs ≡ []
none_below c least [] b o = refl
none_below c least (r ∷ rs) b o =
    let a = both (leb least (channel_of r)) (ascending_from (channel_of r + 1) rs) o in
    let low : least ≤ channel_of r = leb-true _ _ a.0 in
    rw (ne_eqb (channel_of r) c (λ e. omega (arith, e))) (none_below c (channel_of r + 1) rs (omega arith) a.1)

module _ (f : List ℕ → Bool) (n : ℕ) (bound : (r : List ℕ) → f r ≡ true → channel_of r < n) where
  pub numbered : (k : ℕ) (rs : List (List ℕ)) → k ≤ n → every f rs ≡ true → ascending_from k rs ≡ true
      → ((c : ℕ) → k ≤ c → c < n → 0 < length (of_channel c rs)) → Numbered n k rs
  numbered k [] b h o some = none (by_cases (dec_lt k n))
    where
      by_cases : Dec (k < n) → k ≡ n
      by_cases (yes l) = absurd (omega (arith, some k (omega arith) l))
      by_cases (no l) = omega (arith, l)
  numbered k (r ∷ rs) b h o some = by_cases (dec_lt k (channel_of r)) (numbered (suc k) rs)
    where
      held : (f r ≡ true) × (every f rs ≡ true)
      held = both (f r) (every f rs) h

      above : (leb k (channel_of r) ≡ true) × (ascending_from (channel_of r + 1) rs ≡ true)
      above = both (leb k (channel_of r)) (ascending_from (channel_of r + 1) rs) o

      others : channel_of r ≡ k → (c : ℕ) → suc k ≤ c → c < n → 0 < length (of_channel c rs)
      others e c l m = rw (ne_eqb (channel_of r) c (λ z. omega (arith, e, z))) at (some c (omega arith) m)

      by_cases : Dec (k < channel_of r) → (suc k ≤ n → every f rs ≡ true → ascending_from (suc k) rs ≡ true
          → ((c : ℕ) → suc k ≤ c → c < n → 0 < length (of_channel c rs)) → Numbered n (suc k) rs) → Numbered n k (r ∷ rs)
      by_cases (yes l) later =
          let nowhere : of_channel k (r ∷ rs) ≡ [] = rw (ne_eqb (channel_of r) k (λ e. omega (arith, e))) (none_below k (channel_of r + 1) rs (omega arith) above.1) in
          absurd (omega (arith, some k (omega arith) (omega (arith, bound r held.0)), ap length nowhere))
      by_cases (no l) later =
          let e : channel_of r ≡ k = omega (arith, l, leb-true k (channel_of r) above.0) in
          let up : channel_of r + 1 ≡ suc k = omega (arith, e) in
          next e (later (omega (arith, bound r held.0, e)) held.1 (rw up at above.1) (others e))
