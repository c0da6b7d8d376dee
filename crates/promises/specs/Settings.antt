-- DOCUMENT 02, W1: "Equal settings then mean equal bytes, and that is to be shown for all sheets." The settings are the common part and the
-- values of the record that has each channel's number, at whatever place it stands (sheet/specs/Settings.antt).
use Rattle.std.specs.Prelude.{ℕ, ◌≡◌, List, Ok}
use Rattle.bits.specs.Bytes.{Bytes}
use Rattle.sheet.specs.Settings.{settings_of}
use Rattle.sheet.proofs.SettingsLaws.{settings-fix-bytes}
use Rattle.sheet.specs.Sheet.{check_of}

-- EQUAL SETTINGS, EQUAL BYTES: of any two accepted sheets
pub equal-settings-equal-bytes : (s t : List ℕ) → Bytes s → Bytes t → check_of s ≡ Ok tt → check_of t ≡ Ok tt → settings_of s ≡ settings_of t → s ≡ t
equal-settings-equal-bytes = settings-fix-bytes
