-- What the inner functions ask of a mantissa.
use Rattle.std.specs.Prelude.{Bool, false, ◌*◌, leb, Float}
use Rattle.std.specs.Float.{nan, inf, fin}
use Rattle.std.specs.Float.Ieee.{up, down}

-- finite and -1 to 1, as every mantissa of a finite coefficient is (`scaled-within` in ScaleLaws.antt)
unfoldable pub within : Float → Bool
within nan = false
within (inf s) = false
within (fin s m e) = leb (m * up e) (down e)
