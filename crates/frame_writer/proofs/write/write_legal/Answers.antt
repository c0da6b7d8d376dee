-- Refused where the output is too short for the bits that are counted; else stored.
use Rattle.std.specs.Prelude.{ℕ, ◌≡◌, ◌≤◌, ◌<◌, List, length, refl}
use Rattle.std.proofs.Common.{ap, ◌∙◌, arith}
use Rattle.bits.specs.Bytes.{bytes_for}
use Rattle.frame.specs.AnswersLaws.{body_refused, body-accepted}
use Rattle.frame.specs.Body.{counts_of}
use Rattle.frame_body.specs.CountLaws.{legal-baps, counts-from-baps}
use Rattle.frame_body.specs.Size.{counts-most}
use Rattle.frame_body.specs.Writing.{counts_from}
use Rattle.frame_rows.specs.RowsLaws.{length-baps}
use Rattle.frame_writer.specs.AnswersLaws.{body-counted, write-no-room, write_done}
use Rattle.frame_writer.proofs.write.write_legal.Goals.{Start}
use Rattle.frame_writer.proofs.write.write_legal.Goals as goal

-- the counts from the baps are those of the frame
counted : (c : Start) (counts : List ℕ) → counts ≡ counts_from c.args.track.now.settings c.args.bap.now → counts ≡ counts_of c.args.track.now.settings c.args.exps.now c.args.codes.now
counted c counts e =
    let g = c.args in
    let p = c.requires in
    e ∙ ap (counts_from g.track.now.settings) p.bap_value.0
    ∙ counts-from-baps g.track.now.settings g.exps.now g.codes.now g.track.now.legal p.lengths.exps-long p.lengths.codes-long p.legal_frame.coded

pub count_body-counts-requires : goal.count_body-counts-requires
count_body-counts-requires c =
    let g = c.args in
    let p = c.requires in
    let settings = g.track.now.settings in (
      ap length p.bap_value.0 ∙ length-baps settings g.exps.now,
      rw p.bap_value.0 (legal-baps settings g.exps.now g.codes.now g.track.now.legal p.lengths.exps-long p.lengths.codes-long p.legal_frame.coded),
    )

pub body_size-bits-requires : goal.body_size-bits-requires
body_size-bits-requires c =
    let g = c.args in
    let p = c.requires in
    rw (counted (goal.at.body_size-bits-requires c).Start _ c.count_body-counts.ensures)
    (omega (arith, counts-most g.track.now.settings g.track.now.legal g.exps.now g.codes.now p.lengths.exps-long p.legal_frame.coded))

pub returns-then-out-div_ceil : goal.returns-then-out-div_ceil
returns-then-out-div_ceil c =
    let p = c.requires in
    let n = body-counted _ _ _ _ _ (counted (goal.at.returns-then-out-div_ceil c).Start _ c.count_body-counts.ensures) c.body_size-bits.ensures in
    let short : length c.args.out.now < bytes_for c.body_size-bits.result = omega (arith, c.if-out-div_ceil.true) in
    record {
      value = write-no-room _ _ _ _ p.lengths p.legal_frame _ n short;
      out_after = body_refused _ _ _ _ refl;
    }

pub store_body-requires : goal.store_body-requires
store_body-requires c =
    let p = c.requires in
    let n = body-counted _ _ _ _ _ (counted (goal.at.store_body-requires c).Start _ c.count_body-counts.ensures) c.body_size-bits.ensures in
    record {
      exps_len = (p.lengths.exps-long, ap length p.bap_value.0 ∙ length-baps c.args.track.now.settings c.args.exps.now, p.lengths.codes-long);
      legal_frame = p.legal_frame;
      bap_value = p.bap_value;
      codes_in_bounds = omega (arith, n, c.if-out-div_ceil.false);
    }

pub returns : goal.returns
returns c =
    let p = c.requires in
    let all = counted (goal.at.returns c).Start _ c.count_body-counts.ensures in
    let n = body-counted _ _ _ _ _ all c.body_size-bits.ensures in
    let room : bytes_for c.body_size-bits.result ≤ length c.args.out.now = omega (arith, c.if-out-div_ceil.false) in
    record {
      value = write_done _ _ _ _ p.lengths p.legal_frame _ _ all n room;
      out_after = c.store_body.ensures ∙ body-accepted _ _ _ _ _ refl;
    }
