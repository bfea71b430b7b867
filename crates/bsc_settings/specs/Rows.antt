-- The rows of the code as rows of the table of keys.
use Rattle.std.specs.Prelude.{ℕ, Bool, Option, Some, None}
use Rattle.bsc_settings.specs.declared.key.NumberRow.{NumberRow}
use Rattle.bsc_settings.specs.declared.key.TextRow.{TextRow}
use Rattle.bsc_settings.specs.Table.{Kind, integer, Default, required, absent, or_else, uris_kind, uris_default, Row, row}

-- a number of the code that stands for a missing key, if there is one
abbrev pub default_of : Option ℕ → Default
default_of None = required
default_of (Some n) = or_else n

-- a row of the code for a number
abbrev pub number_row : NumberRow → Row
number_row r = row r.key r.word.now (integer r.least r.greatest) (default_of r.default)

-- the same for a number that may be missing
abbrev pub optional_number_row : NumberRow → Row
optional_number_row r = row r.key r.word.now (integer r.least r.greatest) absent

-- a row of the code for a text of some kind
abbrev pub text_row : Kind → TextRow → Row
text_row kind r = row r.key r.word.now kind required

-- the same for a text that may be missing
abbrev pub optional_text_row : Kind → TextRow → Row
optional_text_row kind r = row r.key r.word.now kind absent

-- a row of the code for the URIs of a node that accepts direct connections or doesn't
abbrev pub uris_row : Bool → TextRow → Row
uris_row accepts r = row r.key r.word.now (uris_kind accepts) (uris_default accepts)
