use mathlib.Core.Path.{◌≡◌, sym}
use native.Mathlib.Omega.{arith}
use lib.ListN.{length, take, drop}
use Prim.Native.Nat.{◌-◌}
use Rattle.tables.specs.Bands.{bndtab}
use Rattle.tables.specs.Entry.{entry}
use Rattle.excitation.specs.BandPsd.{lastbin}
use Rattle.excitation.specs.BandOrder.{NextBin}
use Rattle.excitation.specs.BandOrderLaws.{starts_at, ends_at, next-bounds}
use Rattle.excitation.specs.BandPsdLaws.{joined_psd-most}
use Rattle.excitation.proofs.Joining.{joined-start, joined-more, joined-bands, part-long}
use Rattle.excitation.proofs.psd_integration.joined_powers.Goals as goal
use Rattle.excitation.proofs.psd_integration.joined_powers.Goals.{After-band_end-next}

-- where the band starts and ends
start_of : (c : After-band_end-next) → c.from-bin.result ≡ entry bndtab c.loop-band.band
start_of c = starts_at _ _ _ c.bndtab-bndtab.ensures c.from-bin.ensures

end_of : (c : After-band_end-next) → c.band_end-next.result ≡ lastbin (length c.args.exp.now) c.loop-band.band
end_of c = ends_at _ _ _ _ _ (start_of c) c.bndsz-bndsz.ensures c.band_end-next.ensures

next_of : (c : After-band_end-next) → NextBin (length c.args.exp.now) c.loop-band.band c.from-bin.result c.band_end-next.result
next_of c = next-bounds _ _ _ _ c.loop-band-test.true (start_of c) c.if-exp-bin.false c.requires.exp_len.1 (end_of c)

pub loop-band-init : goal.loop-band-init
loop-band-init c =
    let r = c.requires in
    joined-start _ _ _ r.exp_len.0 r.exp_len.1 (omega arith) c.told-powers r.powers_value

pub returns-then-exp-bin-clause-bands : goal.returns-then-exp-bin-clause-bands
returns-then-exp-bin-clause-bands c =
    let r = c.requires in
    let q : c.from-bin.result ≡ entry bndtab c.loop-band.band = starts_at _ _ _ c.bndtab-bndtab.ensures c.from-bin.ensures in
    joined-bands _ _ _ r.exp_len.0 r.exp_len.1 (omega arith) c.told-powers _ _ c.loop-band.invariant (omega arith) (λ _. omega (arith, c.if-exp-bin.true))

pub returns-then-exp-bin-clause-lower_bound : goal.returns-then-exp-bin-clause-lower_bound
returns-then-exp-bin-clause-lower_bound c = (omega arith, c.loop-band.invariant.filled)

pub joined_psd-requires-clause-least : goal.joined_psd-requires-clause-least
joined_psd-requires-clause-least c =
    let n = next_of (goal.at.joined_psd-requires-clause-least c).After-band_end-next in
    rw (part-long c.args.exp.now (length c.args.exp.now) _ _ n.middle (omega arith)) (omega (arith, n.least))

pub overflow_cast-powers : goal.overflow_cast-powers
overflow_cast-powers c =
    let bins = take (c.band_end-next.result - c.from-bin.result) (drop c.from-bin.result c.args.exp.now) in
    omega (arith, rw (sym c.joined_psd.ensures) at (joined_psd-most bins 0 (length bins)))

pub loop-band-preserved : goal.loop-band-preserved
loop-band-preserved c =
    let r = c.requires in
    let a = (goal.at.loop-band-preserved c).After-band_end-next in
    joined-more _ _ _ r.exp_len.0 r.exp_len.1 (omega arith) c.told-powers _ _ _ _ _ c.loop-band.invariant c.loop-band-test.true (start_of a) c.if-exp-bin.false (end_of a) c.joined_psd.ensures

pub returns-clause-bands : goal.returns-clause-bands
returns-clause-bands c =
    let r = c.requires in
    let e : c.loop-band.band ≡ 50 = omega arith in
    joined-bands _ _ _ r.exp_len.0 r.exp_len.1 (omega arith) c.told-powers _ _ (rw e at c.loop-band.invariant) (omega arith) (λ l. absurd (omega arith))

pub returns-clause-lower_bound : goal.returns-clause-lower_bound
returns-clause-lower_bound c =
    let e : c.loop-band.band ≡ 50 = omega arith in
    (omega arith, rw e at c.loop-band.invariant.filled)
