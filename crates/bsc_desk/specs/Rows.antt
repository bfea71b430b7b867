-- What a desk shows of its rows, by the number of a connection.
use Rattle.std.specs.Prelude.{◌≡◌, ℕ, ◌==◌, ◌&&◌, find, is_some, Option, Some, None, IsTrue}
use Rattle.std.specs.List.{list_any, AllByRecursion}
use Rattle.bsc_octets.specs.declared.vmac.Vmac.{Vmac}
use Rattle.bsc_octets.specs.Addresses.{same_vmac}
use Rattle.bsc_history.specs.declared.ending.End.{End}
use Rattle.bsc_history.specs.declared.mark.Mark.{Mark}
use Rattle.bsc_ring.specs.Ends.{inlet_mark}
use Rattle.bsc_desk.specs.declared.row.Row.{Row}
use Rattle.bsc_desk.specs.declared.desk.Desk.{Desk}
use Rattle.bsc_desk.specs.Live.{end_in, known_in}

-- The row of connection c.
abbrev pub row_of : Desk → ℕ → Option Row
row_of d c = find (λ r. r.connection.number == c) d.rows.items

-- The End of c, None where it is live or has no row.
abbrev pub end_of : Desk → ℕ → Option End
end_of d c = end_in (row_of d c)

-- How many frames the desk knows to be taken from the outbox of c, 0 where c has no row: each later push there finds
-- that many taken, or more.
abbrev pub known_of : Desk → ℕ → ℕ
known_of d c = known_in (row_of d c)

-- Connection c has a row, which is so until it leaves.
abbrev pub HasRow : Desk → ℕ → Type 0
HasRow d c = IsTrue (list_any (λ r. r.connection.number == c) d.rows.items)

-- Connection c has a row, was joined by this caller, and joined with the address v.
abbrev pub IsRowOf : Desk → ℕ → ℕ → Vmac → Type 0
IsRowOf d caller c v = IsTrue (list_any (λ r. (r.connection.number == c) && (r.connection.caller == caller) && same_vmac r.connection.who.vmac v) d.rows.items)

-- Connection c has a row, and was joined by this caller.
abbrev pub IsRowBy : Desk → ℕ → ℕ → Type 0
IsRowBy d caller c = IsTrue (list_any (λ r. (r.connection.number == c) && (r.connection.caller == caller)) d.rows.items)

-- The inlet of c, where c has a row, has this mark: it came from the one `make` with the outlet of that mark.
abbrev pub IsMarkOf : Desk → ℕ → Mark → Type 0
IsMarkOf d c m = AllByRecursion (λ r. r.connection.number ≡ c → inlet_mark r.inlet ≡ m) d.rows.items

-- A forward of c goes nowhere: c has ended with the End given, or the hub has stopped where none is given.
abbrev pub IsUnserved : Desk → ℕ → Option End → Type 0
IsUnserved d c None = IsTrue (is_some d.stopped_at)
IsUnserved d c (Some ending) = (d.stopped_at ≡ None) × (end_of d c ≡ Some ending)
