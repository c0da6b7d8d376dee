-- The ways out of the calls: each refusal in its order, and the work done.
use Rattle.std.specs.Prelude.{◌≡◌, Bool, true, false, List, ◌++◌, ℕ, ◌-◌, ◌≤◌, ◌<◌, eqb, leb, length, replicate, Ok, Err}
use Rattle.std.proofs.Common.{arith, eqb-true, length-drop, le-ltb, lt-ltb}
use borrow.Author.Tests.{leb-true}
use Rattle.bits.specs.Answer.{output_of}
use Rattle.bits.specs.Bytes.{bytes_for, bytes_of, after}
use Rattle.bits.specs.Read.{from}
use Rattle.bits.specs.Reading.{ok, fault}
use Rattle.bits.specs.Tests.{both}
use Rattle.bits.specs.Write.{Ready, Put, begun, place, written}
use Rattle.bits.specs.WriteLaws.{step-stored, output-stored}
use Rattle.bits.specs.declared.refusal.Refusal.{Refusal}
use Rattle.bits.specs.declared.refusal.Refusal.TheVariants as refusal
use Rattle.bits.specs.declared.write.Writer.{Writer}
use Rattle.mantissas.specs.Calls.{most_entries, one_length, write_answer, read_of, codes_of, read_answer, codes_after}
use Rattle.mantissas.specs.Stream.{coded, baps_fit, stream, read_stream}

pub one-length-says : (m n : ℕ) → one_length m n ≡ true → (m ≡ n) × (m ≤ most_entries)
unfolding one_length
one-length-says m n e = let h = both (eqb m n) (leb m most_entries) e in (eqb-true m n h.0, leb-true m most_entries h.1)

-- ---- the writer

module _ (room : ℕ) (bs cs : List ℕ) where
  pub write-wrong : one_length (length bs) (length cs) ≡ false → Err refusal.WrongLength ≡ write_answer room bs cs
  unfolding write_answer
  write-wrong h = rw h

  pub write-bad : one_length (length bs) (length cs) ≡ true → coded bs cs ≡ false → Err refusal.BadCode ≡ write_answer room bs cs
  unfolding write_answer
  write-bad h k = rw (h, k)

  pub write-full : (n : ℕ) → one_length (length bs) (length cs) ≡ true → coded bs cs ≡ true → n ≡ length (stream bs cs) → room < bytes_for n
      → Err refusal.NoRoom ≡ write_answer room bs cs
  unfolding write_answer
  write-full n h k e l = rw (h, k, ← e, lt-ltb room (bytes_for n) l)

  pub write_done : (n : ℕ) → one_length (length bs) (length cs) ≡ true → coded bs cs ≡ true → n ≡ length (stream bs cs) → bytes_for n ≤ room
      → Ok n ≡ write_answer room bs cs
  unfolding write_answer
  write_done n h k e l = rw (h, k, ← e, le-ltb room (bytes_for n) l)

-- bits that fit the output, written from its first bit on
pub begun-ready : {w : Writer} {n size : ℕ} → w ≡ begun → bytes_for n ≤ size → Ready w size n
begun-ready e h = rw e (record { few = omega arith; small = omega arith; room = omega arith })

module _ {o o' : List ℕ} {v w : Writer} {bits : List Bool} (e : v ≡ begun) (p : Put o v bits o' w) (fits : bytes_for (length bits) ≤ length o')
  where
    begun-put : Put o begun bits o' w
    begun-put = rw (← e) p

    pub done-ready : Ready w (length o') 0
    done-ready = let q = begun-put in record { few = q.few; small = q.small; room = omega (arith, q.long) }

    pub output-of-written : {o'' : List ℕ} {k : ℕ} (n : ℕ) → k ≡ bytes_for (place w) → o'' ≡ bytes_of (written o' w) ++ after k o' → o'' ≡ output_of (Ok n) bits o
    output-of-written {o''} {k} n q b =
        let s = begun-put in
        output-stored n bits o o'' (step-stored o o' o'' w bits k (omega (arith, s.long)) s q b)

-- ---- the reader

module _ (bits : List Bool) (bs codes : List ℕ) where
  pub read-wrong : one_length (length bs) (length codes) ≡ false
      → (Err refusal.WrongLength ≡ read_answer bits bs (length codes)) × (codes ≡ codes_after bits bs codes)
  unfolding read_answer codes_after
  read-wrong h = (rw h, rw h)

  pub read-bad : one_length (length bs) (length codes) ≡ true → baps_fit bs ≡ false
      → (Err refusal.BadCode ≡ read_answer bits bs (length codes)) × (codes ≡ codes_after bits bs codes)
  unfolding read_answer codes_after
  read-bad h k = (rw (h, k), rw (h, k))

  pub read-faulty : (k : Refusal) → one_length (length bs) (length codes) ≡ true → baps_fit bs ≡ true → read_stream bs (from 0 bits) ≡ fault k
      → (Err k ≡ read_answer bits bs (length codes)) × (replicate (length codes) 0 ≡ codes_after bits bs codes)
  unfolding read_answer codes_after read_of codes_of from
  read-faulty k h f e = (rw (h, f, e), rw (h, f, e))

  pub read_done : (pos : ℕ) (new : List ℕ) → one_length (length bs) (length codes) ≡ true → baps_fit bs ≡ true → pos ≤ length bits
      → read_stream bs (from 0 bits) ≡ ok new (from pos bits)
      → (Ok pos ≡ read_answer bits bs (length codes)) × (new ≡ codes_after bits bs codes)
  unfolding read_answer codes_after read_of codes_of from
  read_done pos new h k l e =
      let n : pos ≡ length bits - (length bits - pos) = omega arith in
      (rw (h, k, e, length-drop, ← n), rw (h, k, e))
