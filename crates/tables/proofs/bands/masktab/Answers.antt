use mathlib.Core.Path.{◌≡◌, sym}
use Prim.Native.Nat.{ℕ, ◌+◌, ◌≤◌, ◌<◌}
use native.Mathlib.Omega.{arith}
use borrow.Author.Rules.{rules}
use Rattle.tables.specs.Entry.{entry}
use Rattle.tables.specs.Bands.{bndtab, bndsz, masktab}
use Rattle.tables.proofs.Rules.{masktab-only, masktab-past, bndtab-first, bndtab-next, bndtab-last}
use Rattle.tables.proofs.bands.masktab.Invariants.{Reached}
use Rattle.tables.proofs.bands.masktab.Goals as goal

reached-next : (bin band : ℕ) → band < 50 → entry bndtab band + entry bndsz band ≤ bin → Reached bin (band + 1)
reached-next bin band h behind = ((λ more. omega (arith, bndtab-next band (omega arith))), last)
  where
    last : 50 ≤ band + 1 → 253 ≤ bin
    last done = let e : band ≡ 49 = omega arith in omega (arith, bndtab-last, rw e at behind)

here : (bin band : ℕ) → Reached bin band → band < 50 → bin < entry bndtab band + entry bndsz band → band ≡ entry masktab bin
here bin band reached h before = sym (masktab-only bin band (record { low = reached.0 h; high = before }))

pub loop-band-init : goal.loop-band-init
loop-band-init c = ((λ h. omega (arith, bndtab-first)), λ h. omega arith)

pub returns-then-bin-from : goal.returns-then-bin-from
unfolding entry bndtab bndsz
returns-then-bin-from c = here _ _ c.loop-band.invariant c.loop-band-test.true (rw (c.from.ensures, c.from-in-loop-band.ensures) at c.if-bin-from.true)

pub loop-band-preserved : goal.loop-band-preserved
unfolding entry bndtab bndsz
loop-band-preserved c = reached-next _ _ c.loop-band-test.true (rw (c.from.ensures, c.from-in-loop-band.ensures) at c.if-bin-from.false)

pub returns : goal.returns
returns c = sym (masktab-past _ (c.loop-band.invariant.1 (search rules)))
