-- Rows: whose they are, and whether their connections are live.
use Rattle.std.specs.Prelude.{ℕ, ◌==◌, Bool, false, Option, Some, None, is_none}
use Rattle.bsc_history.specs.declared.ending.End.{End}
use Rattle.bsc_history.specs.declared.connection.Connection.{Connection}
use Rattle.bsc_ring.specs.Ends.{known_taken}
use Rattle.bsc_desk.specs.declared.row.Row.{Row}

-- the connection of a row, and its number
abbrev pub connection : Row → Connection
connection r = r.connection

abbrev pub number : Row → ℕ
number r = r.connection.number

-- whether the connection of a row is live
abbrev pub is_open : Row → Bool
is_open r = is_none r.ending

-- whether it is the row of the connection given, if there is one
abbrev pub is_row : Option ℕ → Row → Bool
is_row None r = false
is_row (Some conn) r = r.connection.number == conn

-- the End of a row that may be missing, and how many frames its inlet knows to be taken
abbrev pub end_in : Option Row → Option End
end_in None = None
end_in (Some r) = r.ending

abbrev pub known_in : Option Row → ℕ
known_in None = 0
known_in (Some r) = known_taken r.inlet
