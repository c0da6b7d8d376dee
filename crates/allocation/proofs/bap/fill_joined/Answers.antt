use Prim.Native.Nat.{◌-◌, ◌≤◌}
use mathlib.Core.Path.{◌≡◌, sym, ap, ◌∙◌}
use Rattle.std.proofs.Common.{take_all}
use native.Mathlib.Omega.{arith}
use lib.ListN.{length, take, drop}
use Rattle.tables.specs.Bands.{bndtab}
use Rattle.tables.specs.Entry.{entry}
use Rattle.excitation.specs.BandPsd.{lastbin}
use Rattle.excitation.specs.BandOrder.{NextBin}
use Rattle.excitation.specs.BandOrderLaws.{starts_at, ends_at, next-bounds}
use Rattle.allocation.proofs.Filling.{length-window, filled-start, filled_more, filled-there, filled-end, part-lengths, part-exponents, windows-read}
use Rattle.allocation.proofs.bap.fill_joined.Goals as goal
use Rattle.allocation.proofs.bap.fill_joined.Goals.{After-band_end-next}

-- where the band starts and ends
start_of : (c : After-band_end-next) → c.from-bin.result ≡ entry bndtab c.loop-band.band
start_of c = starts_at _ _ _ c.bndtab-bndtab.ensures c.from-bin.ensures

end_of : (c : After-band_end-next) → c.band_end-next.result ≡ lastbin (length c.args.exp.now) c.loop-band.band
end_of c = ends_at _ _ _ _ _ (start_of c) c.bndsz-bndsz.ensures c.band_end-next.ensures

next_of : (c : After-band_end-next) → NextBin (length c.args.exp.now) c.loop-band.band c.from-bin.result c.band_end-next.result
next_of c = next-bounds _ _ _ _ c.loop-band-test.true (start_of c) c.if-exp-bin.false c.requires.exp_len.1 (end_of c)

pub loop-band-init : goal.loop-band-init
loop-band-init c = filled-start _ _ _ c.requires.exp_len.0 c.requires.bap_value

pub fill_band-requires : goal.fill_band-requires
fill_band-requires c =
    let turn = c.loop-band in
    let r = c.requires in
    let n = next_of (goal.at.fill_band-requires c).After-band_end-next in
    let b = r.band_bases in
    let room : length c.args.exp.now ≤ length turn.bap = omega (arith, r.exp_len, turn.invariant.same_length) in record {
      exp_len = (part-lengths _ _ _ _ _ n.middle (omega arith) room, ap length c.window-table.ensures ∙ length-window, rw c.from.ensures (b.1 turn.band c.loop-band-test.true), rw c.from.ensures (b.2 turn.band));
      by_index = part-exponents _ turn.bap _ _ _ n.middle (omega arith) room r.by_index;
    }

pub loop-band-preserved : goal.loop-band-preserved
loop-band-preserved c =
    let turn = c.loop-band in
    let r = c.requires in
    let a = (goal.at.loop-band-preserved c).After-band_end-next in
    filled_more _ _ _ _ r.exp_len.1 (omega (arith, r.exp_len.2)) _ _ _ _ _ turn.invariant turn.auto.band c.loop-band-test.true (start_of a) c.if-exp-bin.false (end_of a)
    (windows-read _ _ _ (take (c.band_end-next.result - c.from-bin.result) (drop c.from-bin.result c.args.exp.now)) _ c.window-table.ensures (rw c.from.ensures at c.fill_band.ensures))

pub shape_of-bap : goal.shape_of-bap
shape_of-bap c = c.loop-band.invariant.same_length

pub returns-then-exp-bin : goal.returns-then-exp-bin
returns-then-exp-bin c =
    let q : c.from-bin.result ≡ entry bndtab c.loop-band.band = starts_at _ _ _ c.bndtab-bndtab.ensures c.from-bin.ensures in
    let i = c.loop-band.invariant in
    sym (take_all _ _ (omega (arith, i.same_length, c.requires.exp_len.2))) ∙ filled-there _ _ _ _ _ i (omega arith) (omega arith) (omega (arith, c.if-exp-bin.true))

pub returns : goal.returns
returns c =
    let e : c.loop-band.band ≡ 50 = omega arith in
    let i = c.loop-band.invariant in
    sym (take_all _ _ (omega (arith, i.same_length, c.requires.exp_len.2))) ∙ filled-end _ _ _ _ c.requires.exp_len.1 (rw e at i)
