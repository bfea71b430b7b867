-- The line of a setting.
use Rattle.std.specs.Prelude.{ℕ, ◌==◌, Bool, true, false, if◌then◌else◌, List, [], ◌∷◌, ◌++◌, codes, decimal, Option, Some}
use Rattle.hex.specs.Hex.{encode_upper}
use Rattle.uuid.specs.Text.{hyphenated_text, lower}
use Rattle.bsc_octets.specs.declared.device_id.DeviceId.{DeviceId}
use Rattle.bsc_octets.specs.declared.vmac.Vmac.{Vmac}
use Rattle.bsc_settings.specs.Table.{Default, or_else, Row}
use Rattle.bsc_settings.specs.Values.{Value, vmac, uuid, number, text, allows, missing}
use Rattle.bsc_settings_told.specs.Quoting.{marked, quoted}

-- A key with its value, and behind it that this is the default, where it is.
unfoldable pub set_line : List ℕ → List ℕ → Bool → List ℕ
set_line word value is_default = word ++ (codes " = " ++ (value ++ (if is_default then codes " # default\n" else codes "\n")))

-- A key that is missing, and may be, is a comment: that is its default.
unfoldable pub unset_line : List ℕ → List ℕ
unset_line word = codes "# " ++ (word ++ codes " isn't set # default\n")

-- An address and a device as values: their digits between quotation marks, those of an address with letters in upper case, those of a
-- device with hyphens and letters in lower case.
unfoldable pub vmac_text : Vmac → List ℕ
vmac_text v = marked (encode_upper v.0)

unfoldable pub uuid_text : DeviceId → List ℕ
uuid_text u = marked (hyphenated_text lower u.0)

-- whether a number is the default
abbrev pub is_default : Default → ℕ → Bool
is_default (or_else n) m = m == n
is_default other m = false

-- what a rule of a policy does
abbrev pub verb_of : Bool → List ℕ
verb_of true = codes "allow"
verb_of false = codes "deny"

-- The line of a setting with this key, this default and this value.
abbrev pub line_by : List ℕ → Default → Value → List ℕ
line_by word default missing = unset_line word
line_by word default (vmac v) = set_line word (vmac_text v) false
line_by word default (uuid u) = set_line word (uuid_text u) false
line_by word default (number n) = set_line word (decimal n) (is_default default n)
line_by word default (text o) = set_line word (quoted o) false
line_by word default (allows b) = set_line word (marked (verb_of b)) false

-- The lines of the settings of a table: of each row one, in their order, with the value that it has.
abbrev pub lines_of : List Row → List (Option Value) → List ℕ
lines_of (r ∷ rows) (Some value ∷ values) = line_by r.word r.default value ++ lines_of rows values
lines_of rows values = []
