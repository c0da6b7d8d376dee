-- The number of coefficient bytes, then the call.
use native.Mathlib.Omega.{arith}
use Rattle.input.specs.ProgramLaws.{program-length, program-encoded}
use Rattle.input.proofs.program.encode_input.Goals as goal

pub returns-then-bytes-n : goal.returns-then-bytes-n
returns-then-bytes-n c =
    program-length _ _ c.sheet_size-size.ensures.0 c.in_ok-track.ensures.0 c.in_ok-track.ensures.1 _ c.channels.ensures _ c.buffer_length-n.ensures (λ z. c.if-bytes-n.true (omega (arith, z)))

pub returns : goal.returns
returns c =
    program-encoded _ _ c.sheet_size-size.ensures.0 c.in_ok-track.ensures.0 c.in_ok-track.ensures.1 _ c.channels.ensures _ c.buffer_length-n.ensures _ (omega arith) c.encode_bytes.ensures
