-- Each strategy is shared by its span.
use Rattle.shaping.proofs.Sharing.{spanned-one}
use mathlib.Core.Path.{refl}
use Rattle.shaping.proofs.spans.share_for.Goals as goal

pub returns-in-D15 : goal.returns-in-D15
returns-in-D15 c = rw c.in-D15.is (spanned-one _ 0 refl)
