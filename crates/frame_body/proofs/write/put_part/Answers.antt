-- A reuse block writes nothing; a new set is a set of its strategy.
use Rattle.frame_body.proofs.Sets.{put-none, set-asked, put-new}
use Rattle.frame_body.proofs.write.put_part.Goals as goal

pub put_exponents-requires-clause-ready : goal.put_exponents-requires-clause-ready
put_exponents-requires-clause-ready c =
    let a = c.args in
    set-asked a.set a.end a.part.now _ c.in-New.is _ c.requires.end_value.1 c.requires.ready

pub returns-in-Reuse : goal.returns-in-Reuse
returns-in-Reuse c =
    let a = c.args in
    put-none a.set a.end a.part.now _ _ _ _ c.in-Reuse.is c.requires.ready

pub returns-in-New : goal.returns-in-New
returns-in-New c =
    let a = c.args in
    put-new a.set a.end a.part.now _ c.in-New.is c.put_exponents.ensures.put
