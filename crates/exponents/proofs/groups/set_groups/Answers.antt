use Rattle.exponents.proofs.groups.set_groups.Goals as goal

pub returns : goal.returns
returns c = rw c.grpsize.ensures at c.group_count.ensures
