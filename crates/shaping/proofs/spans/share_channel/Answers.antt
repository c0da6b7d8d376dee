-- A channel's exponents shared by spans are `spanned`.
use Rattle.shaping.proofs.Sharing.{spanned-alone, spanned-more}
use native.Mathlib.Omega.{arith}
use Rattle.shaping.proofs.spans.share_channel.Goals as goal

pub returns-then-exp-lt2 : goal.returns-then-exp-lt2
returns-then-exp-lt2 g c = spanned-alone _ _ c.if-exp-lt2.true

pub returns : goal.returns
returns g c = spanned-more _ _ _ c.share.ensures (omega arith) (omega arith)
