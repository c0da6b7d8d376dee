-- The start is as defined, and no sum or product overflows, since the part lies within the buffer.
use Rattle.sheet.proofs.Laws.{part-within}
use native.Mathlib.Omega.{arith}
use borrow.Author.Rules.{rules}
use Rattle.sheet.proofs.layout.part_start.Goals as goal

pub overflow_mul-result : goal.overflow_mul-result
overflow_mul-result c = omega (arith, part-within c.args.channels c.args.block c.args.channel (omega arith) (omega arith))

pub overflow_add-result : goal.overflow_add-result
overflow_add-result c = omega (arith, part-within c.args.channels c.args.block c.args.channel (omega arith) (omega arith))

pub overflow_mul-result-2 : goal.overflow_mul-result-2
overflow_mul-result-2 c = omega (arith, part-within c.args.channels c.args.block c.args.channel (omega arith) (omega arith))

pub returns : goal.returns
returns c = record { is = search rules; within = part-within c.args.channels c.args.block c.args.channel (omega arith) (omega arith) }
