-- A part that is kept is the allocation already; any other is worked out.
use native.Mathlib.Omega.{arith}
use Rattle.frame.specs.Body.{bap_part}
use Rattle.frame.specs.Under.{channel-known}
use Rattle.sheet.proofs.SettingsLaws.{channels-bounds}
use Rattle.frame_rows.proofs.rows.allocate_part.Goals as goal

pub record_at-channel-requires : goal.record_at-channel-requires
record_at-channel-requires c = omega (arith, channels-bounds c.args.track.now.legal, c.requires.part_ready.there)

pub allocate-requires : goal.allocate-requires
allocate-requires c =
    let g = c.args in
    let p = c.requires in
    let known = channel-known g.track.now.settings g.track.now.legal g.c p.part_ready.there in
    let end = c.end_at-end.ensures in record {
      legal_codes = rw c.record_at-channel.ensures known.codes;
      legal_bins = record {
        legal = rw end.is known.legal;
        held = omega (arith, end.most, p.part_len.0);
        most = λ bin l. p.part_ready.low bin (omega (arith, l, end.is));
        room = omega (arith, end.most, p.part_len.1);
        short = omega (arith, p.part_len.1);
      };
    }

pub returns-in_default : goal.returns-in_default
returns-in_default c = c.requires.part_ready.kept c.in_default.is

pub returns-in-New : goal.returns-in-New
unfolding bap_part
returns-in-New c =
    let p = c.requires in
    rw (c.record_at-channel.ensures, c.end_at-end.ensures.is, p.part_len.1) at c.allocate.ensures
