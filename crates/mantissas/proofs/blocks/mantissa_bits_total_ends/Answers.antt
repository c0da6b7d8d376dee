-- The sheet's refusals, or the counts under its channels and ends.
use Rattle.std.proofs.lemmas.Result.{err_from_is_err_and}
use Rattle.mantissas.specs.Blocks.{total_answer}
use Rattle.mantissas.proofs.blocks.mantissa_bits_total_ends.Goals as goal

pub returns-in_err-from_bytes : goal.returns-in_err-from_bytes
unfolding total_answer
returns-in_err-from_bytes c =
    let p = err_from_is_err_and c.from_residual.result c.from_residual.ensures.1 in
    rw (p.1, p.2, c.in_err-from_bytes.ensures)

pub returns : goal.returns
unfolding total_answer
returns c = rw (c.in_ok-from_bytes.ensures.0, c.bits_of_blocks.ensures, c.in_ok-from_bytes.ensures.1)
