-- The common part is in its ranges, or nothing else is looked at.
use mathlib.Core.Path.{◌≡◌, sym, ap, ◌∙◌}
use mathlib.Core.Bool.{Bool, true, false, ◌&&◌}
use Rattle.sheet.specs.Common.{common_of, common_in_range}
use Rattle.sheet.specs.Ranges.{records_in_range}
use Rattle.sheet.proofs.check.in_range.Goals as goal

pub returns-then-common_in_range : goal.returns-then-common_in_range
returns-then-common_in_range c =
    let s = c.args.sheet.now in
    let common = c.common_of-common.ensures in
    let held : common_in_range (common_of s) ≡ true = sym (ap common_in_range common) ∙ sym c.common_in_range.ensures ∙ c.if-common_in_range.true in
    simp (c.records_in_range.ensures, c.each_once.ensures, c.channels_of.ensures, common) (ap (λ (b : Bool). b && records_in_range (common_of s) s) (sym held))

pub returns-else-common_in_range : goal.returns-else-common_in_range
returns-else-common_in_range c =
    let s = c.args.sheet.now in
    let common = c.common_of-common.ensures in
    let failed : common_in_range (common_of s) ≡ false = sym (ap common_in_range common) ∙ sym c.common_in_range.ensures ∙ c.if-common_in_range.false in
    ap (λ (b : Bool). b && records_in_range (common_of s) s) (sym failed)
