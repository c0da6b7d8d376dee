-- The record that the bytes begin with.
use native.Mathlib.Omega.{arith}
use mathlib.Core.Path.{◌≡◌, ap}
use lib.ListN.{length}
use borrow.Author.Rules.{rules}
use borrow.Author.Tests.{tests}
use Prim.Native.Nat.{◌<◌}
use Rattle.std.specs.Prelude.{min}
use Rattle.sheet.specs.Grammar.{record_size}
use Rattle.sheet.proofs.Counting.{first-record}
use Rattle.sheet.proofs.records.RecordsIterator.next.Goals as goal

pub returns-clause-steps : goal.returns-clause-steps
returns-clause-steps c =
    let bytes = c.args.self.now.rest.now in
    let some : 0 < length bytes = search (rules, tests) in
    let size : c.min-size.result ≡ min (record_size bytes) (length bytes) = rw (c.min-size.ensures, c.record_size.ensures.0) in
    rw (c.split_at.ensures.front, c.split_at.ensures.back) (first-record bytes _ some size)

pub returns-clause-goes : goal.returns-clause-goes
returns-clause-goes c = record { on = λ _. (tt, tt, omega (arith, ap length (returns-clause-steps c))); keeps = tt; rests = λ _. tt }
