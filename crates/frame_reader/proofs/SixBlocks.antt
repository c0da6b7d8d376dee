-- The six blocks as the code reads them: what the buffers hold after b blocks, and what one block more makes of it.
use Prim.Native.Nat.{ℕ, suc, ◌+◌, ◌-◌, ◌*◌, ◌≤◌, ◌<◌}
use mathlib.Core.Path.{◌≡◌, refl, sym, ap, ◌∙◌}
use mathlib.Core.Bool.{Bool}
use mathlib.Core.List.{List, [], ◌∷◌, ◌++◌}
use native.Mathlib.Nat.{mul-zero}
use native.Mathlib.Numerals.{add-one}
use native.Mathlib.Omega.{arith}
use lib.ListN.{length, take, drop, get_or, set, replicate, length-set, length-drop, length-replicate}
use lib.Seq.{take_all, take-suc-set, get_or-take, get_or-drop}
use Rattle.std.proofs.lemmas.List.{take-set-le, drop-set-lt, drop-set-add}
use Rattle.std.proofs.Common.{take-append-drop}
use Rattle.bits.specs.Parts.{piece}
use Rattle.bits.specs.PartsLaws.{within, placed-length, place-front, placed}
use Rattle.bits.specs.Read.{from}
use Rattle.bits.specs.Reading.{ok, fault, steps}
use Rattle.bits.specs.ReadingLaws.{steps-start, steps-again, steps-fault}
use Rattle.bits.specs.declared.refusal.Refusal.{Refusal}
use Rattle.sheet.specs.Settings.{channels}
use Rattle.sheet.specs.LegalSettings.{LegalSettings}
use Rattle.sheet.specs.declared.settings.Settings.{Settings}
use Rattle.frame.specs.Answers.{reading_of, read_into}
use Rattle.frame.specs.Reader.{Frame, grown, read_block, nothing, read_frame}
use Rattle.frame.specs.Under.{channel-known}
use Rattle.frame_rows.specs.Inner.{LowRow}
use Rattle.frame_rows.specs.RowsLaws.{zero-past}
use Rattle.frame_reader.specs.Reading.{HeldRows, BlockRead, BlockFault, SixRows, FrameRead, most_block}
use Rattle.frame_reader.specs.declared.block.BlockEnd.{BlockEnd}

-- the first b blocks as the buffers hold them; the twelve counts are six of each kind
unfoldable pub held_frame : ℕ → ℕ → List ℕ → List ℕ → List ℕ → List ℕ → List ℕ → Frame
held_frame z b exps bap codes row counts =
    record {
      exps = take (z * b) exps;
      bap = take (z * b) bap;
      codes = take (z * b) codes;
      row = row;
      exponent_bits = take b counts;
      mantissa_bits = take b (drop 6 counts);
    }

-- b blocks were read, up to the position `at`
pub record BlocksRead (settings : Settings) (bits : List Bool) (b : ℕ) (exps bap codes row held counts : List ℕ) (at : ℕ) : Type 0 where
  pub long : SixRows settings exps bap codes
  pub counts-long : length counts ≡ 12
  pub inside : at ≤ length bits
  pub near : at ≤ most_block * b
  pub rows : HeldRows settings b row held
  pub read : steps (read_block settings) b (nothing settings) bits ≡ ok (held_frame (256 * channels settings) b exps bap codes row counts) (from at bits)

-- ---- no block yet

zero-low : (settings : Settings) → LegalSettings settings → (n : ℕ) → LowRow settings (replicate n 0)
unfolding piece
zero-low settings under n =
    record {
      low = λ c h bin l.
          let inside : bin < 256 = omega (arith, (channel-known settings under c h).end-most) in
          let none : get_or {A = ℕ} (take 256 (drop (256 * c) (replicate n 0))) bin 0 ≡ 0 =
          get_or-take {A = ℕ} 256 (drop (256 * c) (replicate n 0)) bin 0 inside ∙ get_or-drop {A = ℕ} (256 * c) (replicate n 0) bin 0 ∙ zero-past n (256 * c + bin) in
          omega (arith, none);
    }

none-held : (settings : Settings) (exps bap codes row counts : List ℕ) → row ≡ replicate (256 * channels settings) 0
    → nothing settings ≡ held_frame (256 * channels settings) 0 exps bap codes row counts
unfolding nothing held_frame
none-held settings exps bap codes row counts e = rw (mul-zero, e)

pub blocks_start : (settings : Settings) (bits : List Bool) (exps bap codes row held counts : List ℕ) → LegalSettings settings
    → row ≡ replicate (256 * channels settings) 0 → length held ≡ 256 * channels settings → SixRows settings exps bap codes → length counts ≡ 12 → BlocksRead settings bits 0 exps bap codes row held counts 0
unfolding from
blocks_start settings bits exps bap codes row held counts under e h long hn =
    record {
      long = long;
      counts-long = hn;
      inside = omega arith;
      near = omega arith;
      rows =
          record {
            row-long = ap length e ∙ length-replicate {A = ℕ} (256 * channels settings) 0;
            bap-long = h;
            low = rw e (zero-low settings under (256 * channels settings));
            kept = λ z. absurd (z refl);
          };
      read = steps-start (read_block settings) (nothing settings) bits ∙ ap (λ (s : Frame). ok s bits) (none-held settings exps bap codes row counts e);
    }

-- ---- one block more

-- the count of a block's sets, and that of its mantissas
first-counts : (counts : List ℕ) (b e m : ℕ) → b < 6 → length counts ≡ 12 → take (suc b) (set (set counts b e) (6 + b) m) ≡ take b counts ++ (e ∷ [])
first-counts counts b e m h n =
    take-set-le (suc b) (set counts b e) (6 + b) m (omega arith) ∙ take-suc-set counts b e (omega arith)

last-counts : (counts : List ℕ) (b e m : ℕ) → b < 6 → length counts ≡ 12 → take (suc b) (drop 6 (set (set counts b e) (6 + b) m)) ≡ take b (drop 6 counts) ++ (m ∷ [])
last-counts counts b e m h n =
    rw (drop-set-add 6 (set counts b e) b m, drop-set-lt 6 counts b e h) (take-suc-set (drop 6 counts) b m (omega (arith, length-drop 6 counts)))

grown-held : (z b a k : ℕ) (exps bap codes row counts ye yb yc yr : List ℕ) (e m : ℕ) → ye ≡ yr → a ≡ z * b → k ≡ z
    → z * b + z ≤ length exps → z * b + z ≤ length bap → z * b + z ≤ length codes → length ye ≡ z → length yb ≡ z → length yc ≡ z → b < 6 → length counts ≡ 12
    → grown (held_frame z b exps bap codes row counts) ye yb yc e m
    ≡ held_frame z (b + 1) (placed a k exps ye) (placed a k bap yb) (placed a k codes yc) yr (set (set counts b e) (6 + b) m)
unfolding grown held_frame
grown-held z b a k exps bap codes row counts ye yb yc yr e m er ea ek he hb hc ne nb nc h n =
    rw (
      place-front z b a k exps ye ea ek he ne,
      place-front z b a k bap yb ea ek hb nb,
      place-front z b a k codes yc ea ek hc nc,
      add-one b,
      first-counts counts b e m h n,
      last-counts counts b e m h n,
      er,
    )

held-row : (z b : ℕ) (exps bap codes row counts : List ℕ) → (held_frame z b exps bap codes row counts).row ≡ row
unfolding held_frame
held-row z b exps bap codes row counts = refl

module _ {settings : Settings} {bits : List Bool} {b : ℕ} {exps bap codes row held counts : List ℕ} {at : ℕ}
    (t : BlocksRead settings bits b exps bap codes row held counts at) (h : b < 6) where
  -- with a fault
  pub frame-fault : (k : Refusal) → BlockFault settings b row bits at k → read_frame settings bits ≡ fault k
  unfolding read_frame
  frame-fault k bad =
      steps-fault (read_block settings) b k (nothing settings) _ bits (from at bits) 6 h t.read
      (bad.is _ (held-row (256 * channels settings) b exps bap codes row counts))

  -- with none: its rows are copied into the buffers, its codes stand there, its counts are stored
  pub blocks_more : {yr yh yc : List ℕ} {r : BlockEnd} → BlockRead settings b row bits at yr yh yc r → (a k : ℕ) (ye yb : List ℕ)
      → a ≡ 256 * channels settings * b → k ≡ 256 * channels settings → ye ≡ yr → yb ≡ yh → length yc ≡ 256 * channels settings
      → BlocksRead settings bits (b + 1) (placed a k exps ye) (placed a k bap yb) (placed a k codes yc) yr yh
      (set (set counts b r.sets) (6 + b) r.stream) r.pos
  blocks_more {yr} {yh} {yc} {r} came a k ye yb ea ek ce cb nc =
      let z = 256 * channels settings in
      let fits : z * b + z ≤ z * 6 = within z b 6 h in
      let he : z * b + z ≤ length exps = omega (arith, t.long.exps-long) in
      let hb : z * b + z ≤ length bap = omega (arith, t.long.bap-long) in
      let hc : z * b + z ≤ length codes = omega (arith, t.long.codes-long) in
      let ne : length ye ≡ z = ap length ce ∙ came.rows.row-long in
      let nb : length yb ≡ z = ap length cb ∙ came.rows.bap-long in
      let more = grown-held z b a k exps bap codes row counts ye yb yc yr r.sets r.stream ce ea ek he hb hc ne nb nc h t.counts-long in
      let same : grown (held_frame z b exps bap codes row counts) ye yb yc r.sets r.stream ≡ grown (held_frame z b exps bap codes row counts) yr yh yc r.sets r.stream = rw (ce, cb) in
      let read : steps (read_block settings) (b + 1) (nothing settings) bits ≡ ok (grown (held_frame z b exps bap codes row counts) yr yh yc r.sets r.stream) (from r.pos bits) =
      steps-again (read_block settings) b (nothing settings) _ bits (from at bits) _ t.read (came.is _ (held-row z b exps bap codes row counts)) in
      record {
        long =
            record {
              exps-long = placed-length exps ye a k (omega arith) (ne ∙ sym ek) ∙ t.long.exps-long;
              bap-long = placed-length bap yb a k (omega arith) (nb ∙ sym ek) ∙ t.long.bap-long;
              codes-long = placed-length codes yc a k (omega arith) (nc ∙ sym ek) ∙ t.long.codes-long;
            };
        counts-long = length-set (set counts b r.sets) (6 + b) r.stream ∙ length-set counts b r.sets ∙ t.counts-long;
        inside = came.within;
        near = omega (arith, came.near, t.near);
        rows = came.rows;
        read = read ∙ ap (λ (s : Frame). ok s (from r.pos bits)) (sym same ∙ more);
      }

-- ---- six blocks

whole-held : (settings : Settings) (exps bap codes row counts : List ℕ) → SixRows settings exps bap codes → length counts ≡ 12
    → held_frame (256 * channels settings) 6 exps bap codes row counts
    ≡ record { exps = exps; bap = bap; codes = codes; row = row; exponent_bits = take 6 counts; mantissa_bits = drop 6 counts }
unfolding held_frame
whole-held settings exps bap codes row counts long hn =
    rw (
      take_all (256 * channels settings * 6) exps (omega (arith, long.exps-long)),
      take_all (256 * channels settings * 6) bap (omega (arith, long.bap-long)),
      take_all (256 * channels settings * 6) codes (omega (arith, long.codes-long)),
      take_all 6 (drop 6 counts) (omega (arith, length-drop 6 counts)),
    )

module _ {settings : Settings} {bits : List Bool} {exps bap codes row held counts : List ℕ} {at : ℕ}
    (t : BlocksRead settings bits 6 exps bap codes row held counts at) where
  frame-read : read_frame settings bits
      ≡ ok (record { exps = exps; bap = bap; codes = codes; row = row; exponent_bits = take 6 counts; mantissa_bits = drop 6 counts }) (from at bits)
  unfolding read_frame
  frame-read =
      t.read
      ∙ ap (λ (s : Frame). ok s (from at bits)) (whole-held settings exps bap codes row counts t.long t.counts-long)

  -- the bits that were read
  spent : length bits - length (from at bits) ≡ at
  unfolding from
  spent = rw length-drop (omega (arith, t.inside))

  pub frame-good : FrameRead (read_frame settings bits) bits exps bap codes (record { counts = counts; bits = at })
  unfolding reading_of read_into
  frame-good =
      record {
        answer = rw (frame-read, spent, take-append-drop 6 counts);
        exps-read = λ n. rw frame-read;
        bap-read = λ n. rw frame-read;
        codes-read = λ n. rw frame-read;
      }
