-- The rows before block b hold their codes.
use Prim.Native.Nat.{◌*◌}
use mathlib.Core.Path.{◌≡◌}
use lib.ListN.{take}
use Rattle.bits.specs.Parts.{joined}
use Rattle.sheet.specs.Settings.{channels}
use Rattle.frame_encoder.specs.Codes.{code_part}
use Rattle.frame_encoder.proofs.codes.code_frame.Given as goal

abbrev pub invariant-loop-b : goal.invariant-loop-b
invariant-loop-b l = take (256 * l.n * l.b) l.codes ≡ joined l.b (λ j. joined (channels l.coeffs.track.now.settings) (code_part l.coeffs.track.now.settings l.coeffs.values.now l.exps l.bap j))
