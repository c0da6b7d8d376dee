-- A pattern whose magnitude is above the infinity's is a NaN's.
use Prim.Native.Nat.{ℕ, ◌<◌, ◌≤◌, ◌%◌}
use mathlib.Core.Path.{◌≡◌, ◌∙◌}
use mathlib.Core.Bool.{true, false}
use lib.Ieee.{binary32, nan_bits, of_bits, div}
use lib.Ieee.Bits.{nan_bits_above}
use borrow.Author.Tests.{lt-ltb, le-ltb}
use Rattle.shaping.specs.Pattern.{coefficient}
use Rattle.shaping.proofs.pattern.coefficient_of.Goals as goal

is_nan : (n : ℕ) → 2139095040 < n % 2147483648 → nan_bits binary32 n ≡ true
is_nan n h = nan_bits_above binary32 n ∙ lt-ltb 2139095040 (n % 2147483648) h

no_nan : (n : ℕ) → n % 2147483648 ≤ 2139095040 → nan_bits binary32 n ≡ false
no_nan n h = nan_bits_above binary32 n ∙ le-ltb 2139095040 (n % 2147483648) h

pub returns-then-pattern-gt2139095040 : goal.returns-then-pattern-gt2139095040
unfolding coefficient div of_bits
returns-then-pattern-gt2139095040 c = rw (is_nan c.args.pattern c.if-pattern-gt2139095040.true)

pub float_from_bits-result : goal.float_from_bits-result
float_from_bits-result c = rw (no_nan c.args.pattern c.if-pattern-gt2139095040.false) tt

pub returns : goal.returns
unfolding coefficient
returns c = rw (no_nan c.args.pattern c.if-pattern-gt2139095040.false)
