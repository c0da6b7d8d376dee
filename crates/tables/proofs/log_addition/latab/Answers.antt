-- Below 210 the element read is the table's entry, from there on every entry is 0.
use mathlib.Core.Path.{◌≡◌, sym}
use Prim.Native.Nat.{◌<◌}
use native.Mathlib.Omega.{arith}
use Rattle.tables.specs.Entry.{entry}
use Rattle.tables.specs.EntryLaws.{entry-take}
use Rattle.tables.specs.Masking.{latab}
use Rattle.tables.proofs.Rules.{latab-past}
use Rattle.tables.proofs.log_addition.latab.Goals as goal

pub returns-then-is_stored : goal.returns-then-is_stored
unfolding entry latab
returns-then-is_stored c =
    let l : c.args.address < 210 = c.if-is_stored.true in
    let e : c.min.result ≡ c.args.address = omega (arith, c.min.ensures, l) in
    rw e (entry-take 210 latab _ l)

pub returns-else-is_stored : goal.returns-else-is_stored
returns-else-is_stored c = sym (latab-past _ c.if-is_stored.false)
