-- At most ten lines of a kind a second.
use Rattle.std.specs.Prelude.{ℕ, ◌+◌, ◌==◌, ◌||◌, Bool, Option, Some, None, nat_lt, if◌then◌else◌}
use Rattle.bsc_log.specs.declared.log_event.LogEvent.{LogEvent}
use Rattle.bsc_log.specs.declared.log_event.LogEvent.TheVariants.{Nak, Denied, Turned, LeftOut}
use Rattle.bsc_log.specs.declared.log_event.Limited.{Limited}
use Rattle.bsc_log.specs.declared.log_event.Limited.TheVariants.{Naks, Denials, Turned as TurnedFor}
use Rattle.bsc_log.specs.declared.log_record.LogRecord.{LogRecord}
use Rattle.bsc_log.specs.declared.limit.Limit.{Limit}
use Rattle.bsc_log.specs.Courses.{counted}

-- Whether a line of this second belongs to the newest one: it is of that, or of the second before, since the lines of two links may cross.
abbrev pub goes_with : ℕ → Limit → Bool
goes_with second l = (second == l.second) || (counted second == l.second)

-- the newest second once there is a line of this one
abbrev pub newest : ℕ → Limit → ℕ
newest second l = if goes_with second l then l.second else second

-- how many lines were told in that second
abbrev pub told_in : ℕ → Limit → ℕ
told_in second l = if goes_with second l then l.told else 0

-- Whether a line of this second is told.
abbrev pub takes : ℕ → Limit → Bool
takes second l = nat_lt (told_in second l) 10

-- What is known behind it.
abbrev pub behind : ℕ → Limit → Limit
behind second l =
    if takes second l then record l { second = newest second l; told = told_in second l + 1 }
    else record l { left_out = counted l.left_out }

-- how many were left out of which is to be told in this second
abbrev pub left_over : ℕ → Limit → ℕ
left_over second l = if goes_with second l then 0 else l.left_out

-- What is known once that is told.
abbrev pub settled : ℕ → Limit → Limit
settled second l = if goes_with second l then l else record l { left_out = 0 }

-- The kind of lines of which at most ten a second are told, where this is one.
abbrev pub limited : LogEvent → Option Limited
limited (Nak nak) = Some Naks
limited Denied = Some Denials
limited (Turned why) = Some (TurnedFor why)
limited event = None

-- what is told of so many lines of this kind that were left out, of which this was the last
abbrev pub count_of : Limited → LogRecord → ℕ → LogRecord
count_of kind last n = record last { event = LeftOut kind n }
