-- The sheet and the channel's number, then the call.
use Rattle.std.proofs.Common.{◌∙◌, sym}
use Rattle.host.proofs.Allocation.{passed, called-answer, called-left}
use Rattle.host.proofs.allocation_entry.compute_bap.Goals as goal

pub returns-clause-value : goal.returns-clause-value
returns-clause-value c =
    let a = c.args in
    let check = passed a.sheet.now a.c _ _ _ c.common_of-common.ensures c.channels_of.ensures c.check_beside.ensures in
    called-answer a.sheet.now a.c a.exp.now a.bap.now _ _ _ (sym check ∙ c.in_ok-check_beside.was) c.common_of-common.ensures c.record_of-chosen.ensures c.from.ensures _ c.compute_bap.ensures.value

pub returns-clause-bap_after : goal.returns-clause-bap_after
returns-clause-bap_after c =
    let a = c.args in
    let check = passed a.sheet.now a.c _ _ _ c.common_of-common.ensures c.channels_of.ensures c.check_beside.ensures in
    called-left a.sheet.now a.c a.exp.now a.bap.now _ _ _ (sym check ∙ c.in_ok-check_beside.was) c.common_of-common.ensures c.record_of-chosen.ensures c.from.ensures _ c.compute_bap.ensures.bap_after
