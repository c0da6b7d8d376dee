-- SCALING (document 02, W4: "A cymbal in the top bins was clipped, since the Rust may raise an exponent"): no coefficient below 1 in magnitude is held to
-- -1..1 when `encode_body` codes it, under every strategy, in new blocks and in reuse blocks. |x| is num x / den x, in whole numbers.
use Rattle.std.specs.Prelude.{ℕ, ◌+◌, ◌^◌, ◌≤◌, ◌<◌, ◌≡◌, List, T, pos, Float, length, get_or}
use Rattle.std.proofs.Common.{le_trans, arith}
use Rattle.std.specs.Float.{nan, binary32}
use Rattle.std.specs.Float.Ieee.{fits, mul, of_int}
use Rattle.std.specs.Float.Ieee.Positive.{num, den}
use Rattle.std.specs.Float.Ieee.Scale.{finite}
use Rattle.bits.specs.Answer.{number}
use Rattle.sheet.specs.Settings.{settings_of, channels, end_at}
use Rattle.sheet.proofs.SettingsLaws.{settings-legal}
use Rattle.sheet.specs.declared.settings.Settings.{Settings}
use Rattle.frame_encoder.specs.Codes.{codes_of}
use Rattle.frame_encoder.specs.CodesLegal.{codes_of-at}
use Rattle.frame_encoder.specs.Encode.{encode_answer}
use Rattle.frame_encoder.specs.EncodeLaws.{fit-whole}
use Rattle.frame.specs.Body.{baps_of}
use Rattle.frame_runs.specs.FiniteLaws.{finite-at, finite-below}
use Rattle.frame_runs.specs.Inner.{Encodable}
use Rattle.frame_runs.specs.NotAboveLaws.{exponent-not-above}
use Rattle.frame.specs.Layout.{below_end}
use Rattle.frame_runs.specs.Runs.{exps_of}
use Rattle.frame_runs.specs.RunsLaws.{at-below-end, whole_below}
use Rattle.quantiser.specs.Code.{code_of}
use Rattle.quantiser.specs.Scale.{scaled}
use Rattle.quantiser.specs.ScaleLaws.{scaled-below-one}
use Rattle.shaping.specs.Extract.{exponent_of}
use Rattle.shaping.specs.ExtractLaws.{exponent-stays, exponent-at-most}
use Rattle.sheet.specs.Layout.{part_start}
use Rattle.promises.specs.Calls.{CoefficientsUnder}
use Rattle.promises.specs.Demand1.{encode-accepted}

-- where bin i of channel c in block b stands in each of the buffers
abbrev pub place : Settings → ℕ → ℕ → ℕ → ℕ
place settings b c i = part_start (channels settings) b c + i

module _ (sheet : List ℕ) (coeffs : List Float) (exps bap codes size : ℕ) (accepted : number (encode_answer sheet coeffs exps bap codes size) ≡ 0)
    (b c i : ℕ) (hb : b < 6) (hc : c < channels (settings_of sheet)) (hi : i < end_at (settings_of sheet) c) where
  abbrev settings : Settings
  settings = settings_of sheet

  under : CoefficientsUnder sheet coeffs exps bap codes
  under = (encode-accepted sheet coeffs exps bap codes size accepted).under

  encodable : Encodable settings coeffs
  encodable = record { whole = (fit-whole settings (length coeffs) exps bap codes under.fit).coeffs-long; finite = under.finite }

  there : {A : Type 0} (l : List A) (z : A) → get_or (below_end settings b c l) i z ≡ get_or l (place settings b c i) z
  there l z = at-below-end settings b c i l z hi

  -- EACH CODE IS THAT OF ITS COEFFICIENT at that bin's exponent and bap
  pub coded-at : get_or (codes_of settings coeffs) (place settings b c i) 0
      ≡ code_of (get_or coeffs (place settings b c i) nan) (get_or (exps_of settings coeffs) (place settings b c i) 0) (get_or (baps_of settings (exps_of settings coeffs)) (place settings b c i) 0)
  coded-at =
      rw (← there (codes_of settings coeffs) 0, ← there coeffs nan, ← there (exps_of settings coeffs) 0, ← there (baps_of settings (exps_of settings coeffs)) 0)
      (codes_of-at settings coeffs (settings-legal sheet under.accepted) encodable b c i nan hb hc hi)

  -- THE EXPONENT IS NOT ABOVE the one that is extracted from the coefficient
  pub not-above : get_or (exps_of settings coeffs) (place settings b c i) 0 ≤ exponent_of (get_or coeffs (place settings b c i) nan)
  not-above =
      rw (← there (exps_of settings coeffs) 0, ← there coeffs nan)
      (exponent-not-above settings coeffs (settings-legal sheet under.accepted) encodable.whole c hc b i nan hb hi)

  is_finite : T (finite (get_or coeffs (place settings b c i) nan))
  is_finite =
      rw (← there coeffs nan)
      (finite-at (below_end settings b c coeffs) i (finite-below settings coeffs b c under.finite hb hc)
      (omega (arith, hi, whole_below settings b c coeffs (settings-legal sheet under.accepted) hb hc encodable.whole)))

  -- SO WHAT IS BELOW 1 IS NOT HELD: if the coefficient, an f32, is below 1 in magnitude, then its mantissa, which `code_of` codes, is below 1 too, and is
  -- the product by 2^exponent and not -1 or 1 in its place
  pub not-held : (let x = get_or coeffs (place settings b c i) nan in let e = get_or (exps_of settings coeffs) (place settings b c i) 0 in
      T (fits binary32 x) → num x < den x → (num (scaled x e) < den (scaled x e)) × (scaled x e ≡ mul binary32 x (of_int binary32 (pos (2 ^ e)))))
  not-held f l =
      let x = get_or coeffs (place settings b c i) nan in
      let e = get_or (exps_of settings coeffs) (place settings b c i) 0 in
      scaled-below-one x e f is_finite (le_trans not-above (exponent-at-most x)) (exponent-stays x e f is_finite l not-above)
