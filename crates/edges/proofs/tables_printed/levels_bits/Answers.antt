use Rattle.std.proofs.Common.{ℕ, ◌∙◌, arith, length-set}
use Rattle.std.specs.Float.{binary32}
use Rattle.std.specs.Float.Ieee.{to_bits}
use Rattle.std.proofs.lemmas.List.Edits.{fill_by_more}
use Rattle.std.proofs.lemmas.List.FromFn.{fill_by_all}
use Rattle.tables.specs.Quantizer.{level, level_count}
use Rattle.edges.proofs.tables_printed.levels_bits.Goals as goal

pub loop-i-preserved : goal.loop-i-preserved
loop-i-preserved g c =
    let l = c.loop-i in
    let f : ℕ → ℕ = λ k. to_bits binary32 (level (level_count c.args.bap) k) in
    (rw length-set l.invariant.0, rw c.level_bits.ensures (fill_by_more f l.bits l.i 0 (omega (arith, l.invariant.0, c.loop-i-test.true)) l.invariant.1))

pub returns : goal.returns
returns g c =
    let l = c.loop-i in
    let n = level_count c.args.bap in
    fill_by_all (λ k. to_bits binary32 (level n k)) l.bits n 0 (l.invariant.0 ∙ c.requires.2) (λ k h. l.invariant.1 k (omega (arith, h, c.requires.2)))
