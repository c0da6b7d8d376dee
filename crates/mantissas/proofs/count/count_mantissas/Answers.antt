-- The tally of the whole list, read.
use Rattle.mantissas.proofs.Weighing.{weighed-bits}
use Rattle.mantissas.proofs.count.count_mantissas.Goals as goal

pub returns : goal.returns
returns c =
    let p = c.requires in
    let all = weighed-bits _ _ p.below p.bap_len_bound c.weigh.ensures.value c.bits_of.ensures in
    record { value = all.0; upper_bound = all.1 }
