-- The larger and the entry of latab that lies at half the distance.
use native.Mathlib.Omega.{arith}
use Rattle.tables.proofs.Rules.{latab-most}
use Rattle.excitation.specs.BandPsd.{logadd}
use Rattle.excitation.proofs.psd_integration.logadd.Goals as goal

pub overflow_add-result : goal.overflow_add-result
overflow_add-result c = omega (arith, latab-most c.min-address.result)

pub returns : goal.returns
unfolding logadd
returns c = cc
