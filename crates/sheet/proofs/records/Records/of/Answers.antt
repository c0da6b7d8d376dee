-- There are no more records than bytes.
use native.Mathlib.Omega.{arith}
use lib.ListN.{drop, length-drop}
use Rattle.sheet.proofs.Counting.{count-least}
use Rattle.sheet.proofs.records.Records.of.Goals as goal

pub returns-clause-count_fits : goal.returns-clause-count_fits
returns-clause-count_fits c = omega (arith, count-least 0 (drop 12 c.args.sheet.now), length-drop 12 c.args.sheet.now)
