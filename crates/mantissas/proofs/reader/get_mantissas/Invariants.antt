-- The codes up to bin i are in, and with those from there on they are what is read; each turn is a law of Reading.antt.
use Rattle.std.proofs.Common.{◌≡◌, ◌+◌, ◌*◌, ◌≤◌, length}
use Rattle.bits.specs.Field.{bits_of}
use Rattle.mantissas.proofs.Reading.{Reading, Started}
use Rattle.mantissas.proofs.reader.get_mantissas.Given as goal

abbrev pub invariant-loop-i : goal.invariant-loop-i
invariant-loop-i l =
    record {
      reading : Reading l.bap (bits_of l.input) l.pos l.codes l.at l.pending l.i;
      codes_long : length l.codes ≡ length l.initial.codes;
      within : l.at ≤ 8 * length l.input;
      later : l.pos ≤ l.at;
      soon : l.at ≤ l.pos + 16 * l.i;
      long : length l.pending ≡ 16;
      started : Started l.pending;
    }
