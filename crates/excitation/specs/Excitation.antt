-- A/52 7.2.2.4: the excitation of a channel that starts at bin 0, in signed numbers.
-- The standard's loops go over the bands (it calls one `bin`) with lowcomp, fastleak and slowleak as variables; here each is a function of the
-- band, the value that the band's turn leaves. bndpsd is that of 7.2.2.3, and lfe says that the channel is the LFE, whose bndend is 7.
use Rattle.std.specs.Prelude.{ℕ, zero, suc, ◌+◌, ◌-◌, Bool, cond, ◌&&◌, ltb, leb, eqb, ℤ, pos, ◌-ℤ◌}
use Rattle.excitation.specs.Signed.{int_max}
use Rattle.excitation.specs.declared.excitation.LeakParameters.{LeakParameters}

-- calc_lowcomp (a, b0, b1, bin) below bin 20, where only the step differs: the step where b0 + 256 = b1, else max (0, a - 64) where b0 > b1, else a.
-- lowcomp is never negative, and `-` stops at 0 as that max does
unfoldable pub stepped_lowcomp : ℕ → ℕ → ℕ → ℕ → ℕ
stepped_lowcomp step a b0 b1 = cond (eqb (b0 + 256) b1) step (cond (ltb b1 b0) (a - 64) a)

-- calc_lowcomp (a, b0, b1, bin); from bin 20 on max (0, a - 128)
unfoldable pub calc_lowcomp : ℕ → ℕ → ℕ → ℕ → ℕ
calc_lowcomp a b0 b1 bin =
    cond (ltb bin 7) (stepped_lowcomp 384 a b0 b1)
    (cond (ltb bin 20) (stepped_lowcomp 320 a b0 b1)
    (a - 128))

-- lowcomp, from 0; the last band of the LFE, 6, leaves it as it is
unfoldable pub lowcomp : Bool → (ℕ → ℕ) → ℕ → ℕ
lowcomp lfe bndpsd zero = calc_lowcomp 0 (bndpsd 0) (bndpsd 1) 0
lowcomp lfe bndpsd (suc k) =
    cond (lfe && eqb (suc k) 6) (lowcomp lfe bndpsd k)
    (calc_lowcomp (lowcomp lfe bndpsd k) (bndpsd (suc k)) (bndpsd (suc (suc k))) (suc k))

-- begin: the band after the first of 2 .. 6 whose bndpsd is below or equal to the next one's; after band 6 it is 7 anyway
unfoldable pub begin : (ℕ → ℕ) → ℕ
begin bndpsd =
    cond (leb (bndpsd 2) (bndpsd 3)) 3
    (cond (leb (bndpsd 3) (bndpsd 4)) 4
    (cond (leb (bndpsd 4) (bndpsd 5)) 5
    (cond (leb (bndpsd 5) (bndpsd 6)) 6
    7)))

-- a leak by its gain and its decay: below begin bndpsd - gain; from begin on leak -= decay, leak = max (leak, bndpsd - gain)
unfoldable pub leak_by : ℕ → ℕ → (ℕ → ℕ) → ℕ → ℤ
leak_by gain decay bndpsd zero = pos (bndpsd 0) -ℤ pos gain
leak_by gain decay bndpsd (suc k) =
    cond (ltb (suc k) (begin bndpsd)) (pos (bndpsd (suc k)) -ℤ pos gain)
    (int_max (leak_by gain decay bndpsd k -ℤ pos decay) (pos (bndpsd (suc k)) -ℤ pos gain))

unfoldable pub fastleak : LeakParameters → (ℕ → ℕ) → ℕ → ℤ
fastleak p bndpsd band = leak_by p.fgain p.fdecay bndpsd band

unfoldable pub slowleak : LeakParameters → (ℕ → ℕ) → ℕ → ℤ
slowleak p bndpsd band = leak_by p.sgain p.sdecay bndpsd band

-- excite[band]: below begin fastleak - lowcomp (in bands 0 and 1 the standard writes bndpsd - fgain for fastleak), below 22
-- max (fastleak - lowcomp, slowleak), then max (fastleak, slowleak)
unfoldable pub excite : LeakParameters → Bool → (ℕ → ℕ) → ℕ → ℤ
excite p lfe bndpsd band =
    cond (ltb band (begin bndpsd)) (fastleak p bndpsd band -ℤ pos (lowcomp lfe bndpsd band))
    (cond (ltb band 22) (int_max (fastleak p bndpsd band -ℤ pos (lowcomp lfe bndpsd band)) (slowleak p bndpsd band))
    (int_max (fastleak p bndpsd band) (slowleak p bndpsd band)))
