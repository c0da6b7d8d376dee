-- Each way out in the order of the refusals, then the reading.
use mathlib.Core.Path.{◌∙◌}
use Rattle.std.proofs.lemmas.Result.{err_from_is_err_and}
use Rattle.frame.specs.Answers.{read_answer, read_under, read_left}
use Rattle.frame_reader.proofs.Answers.{held-size, not-readable, all-readable}
use Rattle.frame_reader.proofs.body.read_body.Goals as goal

pub returns-in_err-track : goal.returns-in_err-track
unfolding read_answer read_left
returns-in_err-track c =
    let p = err_from_is_err_and c.from_residual.result c.from_residual.ensures.1 in
    let e = c.in_err-track.ensures in
    record { value = rw (p.1, p.2, e); exps_after = rw e; bap_after = rw e; codes_after = rw e }

pub returns-then-exps-n : goal.returns-then-exps-n
unfolding read_answer read_under read_left
returns-then-exps-n c =
    let t = c.in_ok-track.ensures in
    let n = c.buffer_length-n.ensures ∙ held-size c.args.sheet.now t.1 c.channels.ensures in
    let e = not-readable _ _ _ _ _ n c.then-exps-n.either in
    record { value = rw (t.0, e); exps_after = rw (t.0, e); bap_after = rw (t.0, e); codes_after = rw (t.0, e) }

pub returns : goal.returns
unfolding read_answer read_under read_left
returns c =
    let t = c.in_ok-track.ensures in
    let n = c.buffer_length-n.ensures ∙ held-size c.args.sheet.now t.1 c.channels.ensures in
    let e = all-readable _ _ _ _ _ n c.if-exps-n.false c.if-bap-n.false c.if-codes-n.false in
    let r = rw t.1 at c.read_frame.ensures in
    record { value = rw (t.0, e) r.value; exps_after = rw (t.0, e) r.exps_after; bap_after = rw (t.0, e) r.bap_after; codes_after = rw (t.0, e) r.codes_after }
