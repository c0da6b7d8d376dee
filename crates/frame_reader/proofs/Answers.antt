-- The test of the buffers' lengths against the settings that the code holds.
use Rattle.std.specs.Prelude.{ℕ, ◌≡◌, true, false, ◌&&◌, List, ◌⊎◌, eqb}
use Rattle.std.proofs.Common.{ap, ◌∙◌, arith}
use Rattle.std.proofs.Math.Path.{subst}
use Rattle.std.proofs.lemmas.Bool.Decides.{nat_tests}
use Rattle.sheet.specs.Layout.{buffer_length}
use Rattle.sheet.specs.LegalSettings.{ChannelCount}
use Rattle.sheet.specs.Settings.{settings_of, channels}
use Rattle.sheet.specs.declared.settings.Settings.{Settings}
use Rattle.frame.specs.Answers.{readable}

pub held-size : (sheet : List ℕ) {settings : Settings} {n : ℕ} → settings ≡ settings_of sheet → ChannelCount settings n → buffer_length n ≡ buffer_length (channels (settings_of sheet))
held-size sheet e many = ap buffer_length (many.is ∙ ap channels e)

-- one of three is not n
abbrev OneNot : ℕ → ℕ → ℕ → ℕ → Type 0
OneNot x y z n = (x ≡ n → ⊥) ⊎ ((x ≡ n × (y ≡ n → ⊥)) ⊎ (x ≡ n × y ≡ n × (z ≡ n → ⊥)))

one-not : (x y z n : ℕ) → OneNot x y z n → (eqb x n && eqb y n && eqb z n) ≡ false
one-not x y z n h = grind (arith, nat_tests)

pub not-readable : (settings : Settings) (n x y z : ℕ) → n ≡ buffer_length (channels settings) → OneNot x y z n → readable settings x y z ≡ false
not-readable settings n x y z e h = one-not x y z (buffer_length (channels settings)) (subst (OneNot x y z) e h)

pub all-readable : (settings : Settings) (n x y z : ℕ) → n ≡ buffer_length (channels settings) → x ≡ n → y ≡ n → z ≡ n → readable settings x y z ≡ true
all-readable settings n x y z e a b c = grind (arith, nat_tests)
