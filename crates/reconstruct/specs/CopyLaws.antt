-- The copy as the code makes it, bin by bin, part by part and block by block; and what each part of a legal frame has.
use Prim.Native.Nat.{ℕ, zero, suc, ◌+◌, ◌-◌, ◌*◌, ◌≤◌, ◌<◌}
use Rattle.std.specs.Prelude.{◌≡◌, length, take, drop, get_or, replicate}
use Rattle.std.proofs.Math.Path.{refl, sym, ap, ap₂}
use Rattle.std.proofs.Common.{◌∙◌, arith, get_or-take, take-take, length-take-le}
use mathlib.Core.List.{List, [], ◌∷◌, ◌++◌, map}
use Rattle.std.proofs.lemmas.List.{map-append}
use Rattle.bits.specs.Parts.{joined, piece, tab}
use Rattle.bits.specs.PartsLaws.{joined-cong, tab-cong}
use Rattle.mantissas.specs.CodedLaws.{coded-take, coded-drop, coded-length}
use Rattle.mantissas.specs.Inner.{LevelTable, Coded, empty, bin}
use Rattle.mantissas.specs.Ranges.{levels}
use Rattle.tables.specs.Entry.{entry}
use Rattle.sheet.specs.Settings.{channels, end_at}
use Rattle.sheet.specs.LegalSettings.{ChannelCount, ChannelEnd, LegalSettings}
use Rattle.sheet.specs.declared.settings.Settings.{Settings}
use Rattle.frame.specs.Body.{bap_part, bap_row, baps_of}
use Rattle.frame.specs.Layout.{row_of, clean_row, SameBelowEnds}
use Rattle.frame.specs.LayoutLaws.{length_part, length-row, piece-bap, bap_part-same, piece-clean, take-clean, end-inside}
use Rattle.frame.specs.Legal.{LegalFrame}
use Rattle.frame.specs.LegalLaws.{legal-codes}
use Rattle.frame.specs.Under.{channel-known}
use Rattle.frame_rows.specs.LegalLaws.{legal-low}
use Rattle.frame_rows.specs.RowsLaws.{row-baps}
use Rattle.reconstruct.specs.Bin.{reconstructed}
use Rattle.reconstruct.specs.Copy.{copy_bins, copy_part, copy_row, copy_of}
use Rattle.reconstruct.specs.Inner.{LegalBins, LegalRow}
use Rattle.reconstruct.specs.declared.mantissa.Reconstructed.{Reconstructed}
use Rattle.reconstruct.specs.declared.mantissa.Reconstructed.TheVariants.{Silent}

-- ---- one thing of each entry

module _ {A B : Type 0} (f : A → B) where
  map-replicate : (n : ℕ) (x : A) → map f (replicate n x) ≡ replicate n (f x)
  map-replicate zero x = refl
  map-replicate (suc n) x = ap (λ (l : List B). f x ∷ l) (map-replicate n x)

  pub map-joined : (n : ℕ) (g : ℕ → List A) → joined n (λ i. map f (g i)) ≡ map f (joined n g)
  unfolding joined
  map-joined zero g = refl
  map-joined (suc n) g = ap (λ (l : List B). l ++ map f (g n)) (map-joined n g) ∙ sym (map-append f (joined n g) (g n))

  map-tab : (n : ℕ) (g : ℕ → A) → tab n (λ i. f (g i)) ≡ map f (tab n g)
  unfolding tab
  map-tab n g = map-joined n (λ i. g i ∷ [])

-- ---- a part

module _ {A : Type 0} (f : Reconstructed → A) where
  -- its bins, one after the other
  pub bins-made : (n : ℕ) (exps bap codes : List ℕ) (l : List A) → l ≡ tab n (λ i. f (reconstructed (get_or exps i 0) (get_or bap i 0) (get_or codes i 0)))
      → l ≡ map f (copy_bins n exps bap codes)
  unfolding copy_bins
  bins-made n exps bap codes l e = e ∙ map-tab f n (λ i. reconstructed (get_or exps i 0) (get_or bap i 0) (get_or codes i 0))

  -- its bins below end, and nothing from there on
  pub part-made : (end : ℕ) (exps bap codes : List ℕ) (l : List A) → l ≡ map f (copy_bins end exps bap codes)
      → l ++ replicate (256 - end) (f Silent) ≡ map f (copy_part end exps bap codes)
  unfolding copy_part
  part-made end exps bap codes l e =
      ap₂ (λ (x y : List A). x ++ y) e (sym (map-replicate f (256 - end) Silent)) ∙ sym (map-append f (copy_bins end exps bap codes) (replicate (256 - end) Silent))

-- nothing from end on is looked at
pub part-below : (end : ℕ) (exps bap codes : List ℕ) → copy_part end (take end exps) (take end bap) (take end codes) ≡ copy_part end exps bap codes
unfolding copy_part copy_bins
part-below end exps bap codes =
    ap (λ (l : List Reconstructed). l ++ replicate (256 - end) Silent)
    (tab-cong _ _ end (λ i h. rw (get_or-take end exps i 0 h, get_or-take end bap i 0 h, get_or-take end codes i 0 h)))

-- what is lent of a channel's part: its entries below end
below-lent : (c end : ℕ) (l : List ℕ) → end ≤ 256 → take (256 * c + end - 256 * c) (drop (256 * c) l) ≡ take end (piece 256 c l)
unfolding piece
below-lent c end l h =
    ap (λ (k : ℕ). take k (drop (256 * c) l)) (let e : 256 * c + end - 256 * c ≡ end = omega arith in e) ∙ sym (take-take end 256 (drop (256 * c) l) h)

module _ {settings : Settings} {n c end : ℕ} (many : ChannelCount settings n) (e : ChannelEnd settings c end) (h : c < n) where
  pub part-lent : (l : List ℕ) → take (256 * c + end - 256 * c) (drop (256 * c) l) ≡ take (end_at settings c) (piece 256 c l)
  part-lent l = below-lent c end l (omega (arith, e.most)) ∙ ap (λ (k : ℕ). take k (piece 256 c l)) e.is

  -- it lies within its row
  pub part_room : (l : List ℕ) → length l ≡ 256 * channels settings → 256 * c + end ≤ length l
  part_room l long = omega (arith, e.most, many.is)

-- a code among codes in range
pub coded-entry : {bs cs : List ℕ} → Coded bs cs → (i : ℕ) → i < length bs → (get_or bs i 0 < 16) × (get_or cs i 0 < levels (get_or bs i 0))
coded-entry empty i h = absurd (omega arith)
coded-entry (bin hb hc k) zero h = (hb, hc)
coded-entry (bin hb hc k) (suc i) h = coded-entry k i (omega arith)

-- how many codes a bap has, as a table lists it
pub count-listed : (table : List ℕ) → LevelTable table → (b : ℕ) → b < 16 → get_or table b 0 ≡ levels b
unfolding entry
count-listed table t b h = t.1 b h

-- ---- the parts of a block

-- the part of channel c
abbrev pub row_part : Settings → List ℕ → List ℕ → ℕ → List Reconstructed
row_part settings exps codes c = copy_part (end_at settings c) (piece 256 c exps) (bap_part settings c (piece 256 c exps)) (piece 256 c codes)

pub row_made : {A : Type 0} (f : Reconstructed → A) (settings : Settings) (exps codes : List ℕ) (l : List A) → l ≡ joined (channels settings) (λ c. map f (row_part settings exps codes c))
    → l ≡ map f (copy_row settings exps codes)
unfolding copy_row
row_made f settings exps codes l e = e ∙ map-joined f (channels settings) (row_part settings exps codes)

module _ (settings : Settings) (exps bap codes : List ℕ) (under : LegalSettings settings) (legal : LegalRow settings exps bap codes) (c : ℕ) (h : c < channels settings) where
  abbrev end : ℕ
  end = end_at settings c

  pub end-most : end ≤ 256
  end-most = omega (arith, (channel-known settings under c h).end-most)

  below-long : (l : List ℕ) → length l ≡ 256 * channels settings → length (take end (piece 256 c l)) ≡ end
  below-long l n = length-take-le end (piece 256 c l) (omega (arith, end-most, length_part settings l c n h))

  pub length-below : length (take end (piece 256 c exps)) ≡ end
  length-below = below-long exps legal.exps-long

  part-coded : Coded (take end (piece 256 c bap)) (take end (piece 256 c codes))
  part-coded =
      let whole : Coded (piece 256 c (bap_row settings exps)) (piece 256 c (clean_row settings codes)) = unfold piece in coded-take 256 (coded-drop (256 * c) legal.coded) in
      let below = rw (piece-clean settings under codes legal.codes-long c h) at (coded-take end whole) in
      rw legal.is (rw (take-clean end (piece 256 c codes) (end-inside settings under codes legal.codes-long c h)) at below)

  pub part-legal : LegalBins (take end (piece 256 c exps)) (take end (piece 256 c bap)) (take end (piece 256 c codes))
  part-legal =
      let n = length-below in
      let m = below-long codes legal.codes-long in
      record {
        bap-long = coded-length part-coded ∙ m ∙ sym n;
        codes-long = m ∙ sym n;
        low = λ i l. rw (get_or-take end (piece 256 c exps) i 0 (omega arith)) (legal.low.low c h i (omega arith));
        coded = part-coded;
      }

  -- what is made of what is lent is the channel's part
  pub row-part : {A : Type 0} (f : Reconstructed → A)
      → map f (copy_part (length (take end (piece 256 c exps))) (take end (piece 256 c exps)) (take end (piece 256 c bap)) (take end (piece 256 c codes)))
      ≡ map f (row_part settings exps codes c)
  row-part f =
      ap (λ (n : ℕ). map f (copy_part n (take end (piece 256 c exps)) (take end (piece 256 c bap)) (take end (piece 256 c codes)))) length-below
      ∙ ap (map f) (part-below end (piece 256 c exps) (piece 256 c bap) (piece 256 c codes))
      ∙ ap (λ (l : List ℕ). map f (copy_part end (piece 256 c exps) l (piece 256 c codes))) (ap (piece 256 c) legal.is ∙ piece-bap settings exps c h)

-- ---- the blocks of a frame

pub frame_made : {A : Type 0} (f : Reconstructed → A) (settings : Settings) (exps codes : List ℕ) (l : List A)
    → l ≡ joined 6 (λ b. map f (copy_row settings (row_of settings b exps) (row_of settings b codes))) → l ≡ map f (copy_of settings exps codes)
unfolding copy_of
frame_made f settings exps codes l e = e ∙ map-joined f 6 (λ b. copy_row settings (row_of settings b exps) (row_of settings b codes))

pub row-legal : (settings : Settings) (exps codes : List ℕ) → LegalSettings settings → LegalFrame settings exps codes
    → length exps ≡ 256 * channels settings * 6 → length codes ≡ 256 * channels settings * 6 → (b : ℕ) → b < 6
    → LegalRow settings (row_of settings b exps) (row_of settings b (baps_of settings exps)) (row_of settings b codes)
row-legal settings exps codes under legal exps-long codes-long b h =
    record {
      exps-long = length-row settings exps b exps-long h;
      codes-long = length-row settings codes b codes-long h;
      low = legal-low settings exps under exps-long legal.shaped b h;
      is = row-baps settings exps b h;
      coded = legal-codes settings exps codes legal.coded b h;
    }

-- ---- frames that are the same below each end

part_same : (settings : Settings) (c : ℕ) (exps other codes coded : List ℕ) → take (end_at settings c) exps ≡ take (end_at settings c) other → take (end_at settings c) codes ≡ take (end_at settings c) coded
    → copy_part (end_at settings c) exps (bap_part settings c exps) codes ≡ copy_part (end_at settings c) other (bap_part settings c other) coded
part_same settings c exps other codes coded e q =
    let end = end_at settings c in
    sym (part-below end exps (bap_part settings c exps) codes)
    ∙ ap₂ (λ (x y : List ℕ). copy_part end x (take end (bap_part settings c exps)) y) e q
    ∙ ap (λ (l : List ℕ). copy_part end (take end other) (take end l) (take end coded)) (bap_part-same settings c exps other e)
    ∙ part-below end other (bap_part settings c other) coded

-- sound the same
pub copy-same : (settings : Settings) (exps other codes coded : List ℕ) → SameBelowEnds settings exps other → SameBelowEnds settings codes coded → copy_of settings exps codes ≡ copy_of settings other coded
unfolding copy_of copy_row
copy-same settings exps other codes coded e q =
    joined-cong _ _ 6
    (λ b hb. joined-cong _ _ (channels settings)
    (λ c hc. part_same settings c (piece 256 c (row_of settings b exps)) (piece 256 c (row_of settings b other)) (piece 256 c (row_of settings b codes)) (piece 256 c (row_of settings b coded)) (e.part b c hb hc) (q.part b c hb hc)))
