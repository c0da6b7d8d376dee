use Rattle.std.proofs.Common.{◌∙◌, arith}
use Rattle.mantissas.proofs.Checking.{baps-start, baps-next, baps-end}
use Rattle.mantissas.proofs.code.check_baps.Goals as goal

pub loop-b-init : goal.loop-b-init
loop-b-init c = baps-start _

pub loop-b-preserved : goal.loop-b-preserved
loop-b-preserved c = let l = c.loop-b in baps-next l.b-index c.args.bap.now l.all (omega arith) ∙ l.invariant

pub returns : goal.returns
returns c = let l = c.loop-b in baps-end l.b-index c.args.bap.now l.all (omega arith) ∙ l.invariant
