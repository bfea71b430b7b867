-- The time of a line.
use Rattle.std.specs.Prelude.{◌≡◌, ℕ, List, ◌++◌, Some, false, pos}
use Rattle.jiff_core.specs.declared.civil.datetime.DateTime.{DateTime}
use Rattle.jiff_core.specs.DateTime.{civil_nanos}
use Rattle.jiff_core.specs.Timestamp.{IsTimestampNanos}
use Rattle.jiff_fmt.specs.Text.{datetime_text, zulu_text}

-- The text is the date and the time of day in UTC so many nanoseconds after the beginning of 1970, where the calendar has it: with
-- a T between them, three places of the second, and a Z behind.
abbrev pub IsStampOf : ℕ → List ℕ → Type 0
IsStampOf nanos text =
    (at : DateTime) × (IsTimestampNanos (pos nanos) → civil_nanos at ≡ pos nanos) × (text ≡ datetime_text false 84 (Some 3) at ++ zulu_text false)
