-- Rows, and how they are found: by a number, by an address, by a device.
use Rattle.std.specs.Prelude.{ℕ, ◌-◌, ◌==◌, nat_le, nat_lt, Bool, true, false, ◌&&◌, List, [], ◌∷◌, filter, find, map, Option, Some, None, is_none}
use Rattle.std.specs.List.{list_all}
use Rattle.bsc_octets.specs.declared.device_id.DeviceId.{DeviceId}
use Rattle.bsc_octets.specs.declared.vmac.Vmac.{Vmac}
use Rattle.bsc_octets.specs.Addresses.{same_device, same_vmac}
use Rattle.bsc_history.specs.declared.connection.Connection.{Connection}
use Rattle.bsc_history.specs.declared.ending.End.{End}
use Rattle.bsc_history.specs.Laws.{Apart}
use Rattle.bsc_legality.specs.declared.row.Row.{Row}

abbrev pub connection : Row → Connection
connection r = r.connection

abbrev pub number : Row → ℕ
number r = r.connection.number

-- whether the connection of a row is live
abbrev pub is_open : Row → Bool
is_open r = is_none r.ending

-- whether a row is that of connection c
abbrev pub has_number : ℕ → Row → Bool
has_number c r = r.connection.number == c

-- The row of connection c.
abbrev pub row_of : List Row → ℕ → Option Row
row_of rows c = find (has_number c) rows

-- whether the connection of a row is live and passes a test
abbrev pub is_open_with : (Connection → Bool) → Row → Bool
is_open_with p r = is_open r && p (connection r)

-- The row of the live connection that holds an address.
abbrev pub holder_in : List Row → Vmac → Option Row
holder_in rows v = find (is_open_with (λ c. same_vmac c.who.vmac v)) rows

-- The row of the live connection of a device.
abbrev pub device_in : List Row → DeviceId → Option Row
device_in rows u = find (is_open_with (λ c. same_device c.who.device u)) rows

-- No two rows of live connections have the same address.
abbrev pub AreAlone : List Row → Type 0
AreAlone rows = Apart (λ (c : Connection). c.who.vmac) (map connection (filter is_open rows))

-- the End of a row that may be missing
abbrev pub end_in : Option Row → Option End
end_in None = None
end_in (Some r) = r.ending

-- whether a row that may be missing is that of a caller's connection
abbrev pub is_by : Option Row → ℕ → Bool
is_by None caller = false
is_by (Some r) caller = r.connection.caller == caller

-- whether a look at a row can find so many taken
abbrev pub can_find_at : Option Row → ℕ → Bool
can_find_at None taken = false
can_find_at (Some r) taken = nat_le r.looked taken && nat_le taken r.entered

-- whether a look at a row that finds so many taken finds its outbox full, which holds `outbox` frames
abbrev pub finds_full_at : ℕ → Option Row → ℕ → Bool
finds_full_at outbox None taken = false
finds_full_at outbox (Some r) taken = (r.entered - taken) == outbox

-- Whether rows stand in the order of their numbers.
abbrev pub rising : List Row → Bool
rising [] = true
rising (r ∷ rows) = list_all (λ s. nat_lt r.connection.number s.connection.number) rows && rising rows
