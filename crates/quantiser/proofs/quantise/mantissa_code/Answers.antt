-- `quantiser::mantissa_code` gives `code_of`: code 0, the nearest level, or a fraction of the bap's width.
use Rattle.std.proofs.Common.{◌≡◌, ◌^◌, ◌≤◌, ◌∙◌, ap, pow_mono, ne_eqb, le-ltb, arith}
use Rattle.tables.specs.Entry.{entry}
use Rattle.tables.specs.EntryLaws.{entry-lent}
use Rattle.tables.specs.Quantizer.{quantization_bits}
use Rattle.quantiser.specs.Code.{code_of}
use Rattle.quantiser.specs.ScaleLaws.{scaled-within}
use Rattle.quantiser.specs.CodeLaws.{fraction, signed_lt}
use Rattle.quantiser.proofs.quantise.mantissa_code.Goals as goal
use Rattle.quantiser.proofs.quantise.mantissa_code.Goals.{After-from-2}

-- the width of the bap's fraction
width : (c : After-from-2) → c.from-2.result ≡ entry quantization_bits c.args.bap
width c = c.from-2.ensures ∙ entry-lent _ _ _ c.quantization_bits.ensures ∙ ap (λ b. entry quantization_bits b) c.from.ensures

pub signed_code-requires : goal.signed_code-requires
signed_code-requires c =
    let f = fraction c.args.bap c.if-bap-lt6.false c.requires.exponent_bound.1 in
    record {
      t = rw c.scale-m.ensures (scaled-within c.args.coeff c.args.exponent c.requires.t c.requires.exponent_bound.0);
      le_width = rw (width c) (omega arith, f.most);
    }

pub overflow_cast-result : goal.overflow_cast-result
overflow_cast-result c =
    let f = fraction c.args.bap c.if-bap-lt6.false c.requires.exponent_bound.1 in
    let w = width (goal.at.overflow_cast-result c).After-from-2 in
    let least : 1 ≤ c.from-2.result = rw w (omega arith) in
    let narrow : c.from-2.result ≤ 16 = rw w f.most in
    let most : 2 ^ c.from-2.result ≤ 2 ^ 16 = pow_mono narrow in
    omega (arith, c.signed_code.ensures, signed_lt c.from-2.result c.scale-m.result least, most)

pub returns : goal.returns
unfolding code_of
returns c =
    simp (ne_eqb _ 0 c.if-bap-eq0.false, le-ltb _ 6 c.if-bap-lt6.false)
    (rw (c.scale-m.ensures, width (goal.at.returns c).After-from-2) at c.signed_code.ensures)
