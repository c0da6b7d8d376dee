-- The exponents are legal, so they are allocated; so their codes can be worked out.
use mathlib.Core.Path.{◌∙◌}
use Rattle.frame_runs.specs.RunsLegal.{exps_of-legal}
use Rattle.frame_encoder.specs.Codes.{codes_of}
use Rattle.frame_encoder.proofs.encode.make_frame.Goals as goal

pub allocate_body-requires-clause-exps_value : goal.allocate_body-requires-clause-exps_value
allocate_body-requires-clause-exps_value c =
    let f = c.args.coeffs.now in
    rw c.fill_exponents.ensures (exps_of-legal f.track.now.settings f.values.now f.track.now.legal f.encodable.whole)

pub code_frame-requires-clause-allocated : goal.code_frame-requires-clause-allocated
code_frame-requires-clause-allocated c =
    let f = c.args.coeffs.now in
    record {
      whole = c.fill_exponents.auto.exps ∙ c.requires.exps-long;
      legal = rw c.fill_exponents.ensures (exps_of-legal f.track.now.settings f.values.now f.track.now.legal f.encodable.whole);
      is = c.allocate_body.ensures;
    }

pub returns : goal.returns
unfolding codes_of
returns c =
    let e = c.fill_exponents.ensures in
    let a = rw e at c.allocate_body.ensures in
    record {
      shaped_after = e;
      allocated_after = a;
      quantised_after = rw (e, a) at c.code_frame.ensures;
    }
