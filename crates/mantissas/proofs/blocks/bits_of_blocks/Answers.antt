-- Each way out in the order of the refusals.
use Rattle.std.proofs.Common.{◌≡◌, length, sym, ap, ◌∙◌, eq-eqb, ne_eqb}
use Rattle.bits.specs.Tests.{held_false, held_true}
use Rattle.mantissas.specs.Blocks.{blocks_answer}
use Rattle.mantissas.specs.CodedLaws.{baps-true}
use Rattle.sheet.specs.Layout.{buffer_length}
use Rattle.sheet.specs.Settings.{channels}
use Rattle.mantissas.proofs.blocks.bits_of_blocks.Goals as goal
use Rattle.mantissas.proofs.blocks.bits_of_blocks.Goals.{Else-bap-buffer_length}

long : (c : Else-bap-buffer_length) → length c.args.bap.now ≡ buffer_length (channels c.args.track.now.settings)
long c = c.if-bap-buffer_length.false ∙ c.buffer_length.ensures ∙ ap buffer_length c.channels.ensures.is

pub returns-then-bap-buffer_length : goal.returns-then-bap-buffer_length
unfolding blocks_answer
returns-then-bap-buffer_length c =
    rw (ne_eqb (length c.args.bap.now) (buffer_length (channels c.args.track.now.settings))
    (λ e. c.if-bap-buffer_length.true (e ∙ sym (c.buffer_length.ensures ∙ ap buffer_length c.channels.ensures.is))))

pub returns-then-not-check_blocks : goal.returns-then-not-check_blocks
unfolding blocks_answer
returns-then-not-check_blocks c =
    rw (eq-eqb _ _ (long (goal.at.returns-then-not-check_blocks c).Else-bap-buffer_length), held_false c.check_blocks.ensures c.if-not-check_blocks.true)

pub count_blocks-requires-clause-below : goal.count_blocks-requires-clause-below
count_blocks-requires-clause-below c = baps-true _ (held_true c.check_blocks.ensures c.if-not-check_blocks.false)

pub returns : goal.returns
unfolding blocks_answer
returns c =
    rw (eq-eqb _ _ (long (goal.at.returns c).Else-bap-buffer_length), held_true c.check_blocks.ensures c.if-not-check_blocks.false, c.count_blocks.ensures)
