-- What is tested, and what is left to test from the next channel on, make up the test of all records.
use mathlib.Core.Path.{◌≡◌}
use mathlib.Core.Bool.{◌&&◌}
use Rattle.sheet.specs.Grammar.{count_off}
use Rattle.sheet.specs.Order.{in_order}
use Rattle.sheet.specs.OrderLaws.{ascending_from}
use Rattle.sheet.proofs.check.in_order.Given as goal

abbrev pub invariant-loop-bytes : goal.invariant-loop-bytes
invariant-loop-bytes l = (l.all && ascending_from l.least (count_off 0 (l.bytes-iterator).rest.now)) ≡ in_order l.sheet
