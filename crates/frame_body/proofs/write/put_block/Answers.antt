-- The sets, and behind them the stream of the block.
use mathlib.Core.Path.{sym}
use Rattle.bits.specs.WriteLaws.{and_then, room-first, room-second}
use Rattle.frame.specs.Body.{sets_bits, mantissa_bits, block_bits}
use Rattle.frame_body.proofs.Blocks.{rows_long, low-coded, low-stream}
use Rattle.frame_body.proofs.write.put_block.Goals as goal

pub put_sets-sets-requires-clause-ready : goal.put_sets-sets-requires-clause-ready
unfolding block_bits
put_sets-sets-requires-clause-ready c =
    let a = c.args in
    let settings = a.track.now.settings in
    room-first _ (sets_bits settings a.b a.row.now) (mantissa_bits settings a.row.now a.codes.now) c.requires.ready

pub put_bins-requires : goal.put_bins-requires
unfolding block_bits
put_bins-requires c =
    let a = c.args in
    let row = a.row.now in
    let bap = a.bap.now in
    let codes = a.codes.now in
    let sets = sets_bits a.track.now.settings a.b row in
    let room = room-second _ sets (mantissa_bits a.track.now.settings row codes) c.put_sets-sets.ensures c.requires.ready c.put_sets-sets.auto.out in
    let long = rows_long a.track.now.legal row bap codes c.requires.bap_value.0 c.requires.bap_value.1 c.requires.bap_value.2 in
    record {
      bap_len = long;
      coded = low-coded a.track.now.legal row bap codes c.requires.bap_value.0 c.requires.bap_value.1 c.requires.bap_value.2;
      ready = rw (low-stream a.track.now.legal row bap codes c.requires.bap_value.0 c.requires.bap_value.1 c.requires.bap_value.2) at room;
    }

pub returns : goal.returns
unfolding block_bits
returns c =
    let a = c.args in
    let p = c.requires.bap_value in
    let e = low-stream a.track.now.legal a.row.now a.bap.now a.codes.now p.0 p.1 p.2 in
    let sets = sets_bits a.track.now.settings a.b a.row.now in
    and_then {x = sets} c.put_sets-sets.ensures (rw (sym e) at c.put_bins.ensures)
