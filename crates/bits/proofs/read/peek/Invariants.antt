-- The bytes from `first` to i are gathered; their value, cut on both sides, is the field there.
use Rattle.std.proofs.Common.{◌≡◌, ◌++◌, ◌*◌, ◌-◌, ◌^◌, ◌<◌}
use Rattle.bits.specs.Field.{field, bits_of}
use Rattle.bits.specs.Bytes.{after}
use Rattle.bits.proofs.read.peek.Given as goal

abbrev pub invariant-loop-i : goal.invariant-loop-i
invariant-loop-i l =
    record {
      gathered : bits_of (after l.first l.input) ≡ field (8 * (l.i - l.first)) l.acc ++ bits_of (after l.i l.input);
      fits : l.acc < 2 ^ (8 * (l.i - l.first));
    }
